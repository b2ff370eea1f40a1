-- A request that a site chose, as the call finds it.
use Rattle.std.proofs.Common.{◌≡◌, ℕ, List, Some, true, sym, ap, ◌∙◌, subst}
use Rattle.std.specs.Prelude.{is_some, IsSome}
use Rattle.chem_model.specs.declared.event.AtomId.{AtomId}
use Rattle.chem_model.specs.declared.event.Event.{Event}
use Rattle.wire_packet.specs.declared.packet.Ask.{Ask}
use Rattle.wire_packet.specs.declared.packet.Ask.TheVariants as request
use Rattle.wire_packet.specs.GroupFacts.{RequestParts}
use Rattle.env_store.specs.CodeParts.{CodeParts}
use Rattle.loc_tree.specs.Tree.{Tree}
use Rattle.net_laws.specs.Site.{Site}
use Rattle.net_laws.specs.Holding.{request_with}
use Rattle.site_solution.proofs.Together.{request_id}
use Rattle.site_solution.specs.declared.effects.Effects.{Effects}
use Rattle.migration.specs.Moves.{can_go}
use Rattle.site_turn.specs.declared.next.Chosen.TheVariants as choice
use Rattle.site_turn.specs.declared.turn.Turn.{Turn}
use Rattle.site_turn.specs.Next.{may_meet, IsToGo}
use Rattle.site_turn.specs.After.{event_for, IsEventOf, AfterAsk}
use Rattle.site_turn.proofs.Requests.{asked_there, one_member}
use Rattle.site_turn.proofs.Choices.{can_go_now}

-- it may be met, in version 2 at least
module _ (t : Tree) (s : Site) (a : AtomId) (met : may_meet 2 t s a ≡ true) where
  pub is_asked : IsSome (request_with a s.requests)
  is_asked = ap is_some (asked_there 2 t s a met).1

  module _ (q : RequestParts) (here : request_with a s.requests ≡ Some q) where
    own : q.id ≡ a
    own = request_id s.requests a q here

    pub own_here : request_with q.id s.requests ≡ Some q
    own_here = ap (λ (i : AtomId). request_with i s.requests) own ∙ here

    pub own_met : may_meet 2 t s q.id ≡ true
    own_met = ap (may_meet 2 t s) own ∙ met

    pub ask_event : (c : CodeParts) (e : Event) → e ≡ event_for q.ask q.id
        → IsEventOf c s (choice.Ask a) e
    ask_event c e is = (q, (here, is ∙ ap (event_for q.ask) own))

    pub ask_same : (c : CodeParts) (e : Event) → IsEventOf c s (choice.Ask a) e
        → e ≡ event_for q.ask q.id
    ask_same c e is =
        let one : is.0 ≡ q = one_member (request_with a s.requests) is.0 q is.1.0 here in
        is.1.1 ∙ ap (λ (r : RequestParts). event_for r.ask a) one ∙ ap (event_for q.ask) (sym own)

    pub ask_does : (turn : Turn) (counts seen : List ℕ) (u : Tree) (new : Site) (e : Effects)
        → counts ≡ seen → AfterAsk turn q.ask counts t s q.id u new e → (r : RequestParts)
        → request_with a s.requests ≡ Some r → AfterAsk turn r.ask seen t s a u new e
    ask_does turn counts seen u new e same h r there =
        let is : q ≡ r = one_member (request_with a s.requests) q r here there in
        subst (λ (x : RequestParts). AfterAsk turn x.ask seen t s a u new e) is
        (subst (λ (i : AtomId). AfterAsk turn q.ask seen t s i u new e) own
        (subst (λ (ns : List ℕ). AfterAsk turn q.ask ns t s q.id u new e) same h))

  -- ---- and one to go

  module _ (goes : IsToGo a s) where
    pub go_can : can_go 2 t a s ≡ true
    go_can = can_go_now 2 t s a goes.asked goes.here met goes.target goes.cont goes.asks

    pub go_event : (c : CodeParts) (e : Event) → e ≡ event_for (request.Go goes.target goes.cont) a
        → IsEventOf c s (choice.Ask a) e
    go_event c e is =
        (goes.asked, (goes.here, is ∙ ap (λ (v : Ask). event_for v a) (sym goes.asks)))
