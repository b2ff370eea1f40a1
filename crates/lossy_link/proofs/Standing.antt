-- Each step over links leaves links that stand for what its event leads to.
use Rattle.std.proofs.Common.{◌≡◌, ℕ, ◌+◌, ◌<◌, List, [], ◌∷◌, ◌++◌, Bool, true, false}
use Rattle.std.proofs.Common.{cond}
use Rattle.std.proofs.Common.{Option, Some, None, length, slice_get, refl, sym, ap, subst, ◌∙◌}
use Rattle.std.proofs.Common.{arith}
use Rattle.chem_model.specs.Each.{Each}
use Rattle.chem_model.specs.Opening.{root_of}
use Rattle.chem_model.specs.declared.event.Event.{Event}
use Rattle.chem_model.specs.declared.numbered.NumberedAtom.{NumberedAtom}
use Rattle.chem_model.specs.declared.numbered.NumberedRule.{NumberedRule}
use Rattle.chem_model.specs.declared.numbered.Numbered.{Numbered}
use Rattle.chem_model.specs.ProgramFacts.{ProgramTerms}
use Rattle.chem_laws.proofs.Lists.{Each-append, Each-left, Each-right}
use Rattle.env_store.specs.CodeFacts.{IsCode}
use Rattle.env_store.specs.CodeParts.{CodeParts}
use Rattle.env_store.specs.Laws.{rules_of_group}
use Rattle.loc_tree.specs.Tree.{Tree}
use Rattle.wire_packet.specs.GroupFacts.{GroupParts}
use Rattle.net_laws.specs.Choices.{Leads}
use Rattle.net_laws.specs.Net.{Addressed, Net, under_way, IsOnItsWay, among, home_or}
use Rattle.net_laws.specs.Opened.{RunsCode}
use Rattle.net_core.specs.Acting.{Delivers}
use Rattle.net_core.specs.Acts.{Acts}
use Rattle.net_core.specs.Drained.{AreHandedOut}
use Rattle.net_core.specs.Falling.{misdirected, deliveries_left}
use Rattle.net_core.specs.Laws.{IsLed, IsLedFrom}
use Rattle.net_core.specs.Parts.{carried}
use Rattle.net_core.specs.Playing.{deliver}
use Rattle.net_core.specs.Received.{flight_to, with_last}
use Rattle.net_core.specs.UnderWay.{with_packets}
use Rattle.net_core.specs.Whole.{NetParts, RunsSome}
use Rattle.net_core.specs.declared.choice.Choice.{Choice}
use Rattle.net_core.specs.declared.drained.FlightFrom.{FlightFrom}
use Rattle.net_core.proofs.Done.{acts_does}
use Rattle.net_core.proofs.Falling.{deliveries_fall}
use Rattle.net_core.proofs.Fewer.{stands_alike}
use Rattle.net_core.proofs.Framing.{acts_framed, delivers_framed}
use Rattle.net_core.proofs.Playing.{one_leads}
use Rattle.net_core.proofs.Taken.{runs_some_fewer, runs_some_alike}
use Rattle.lossy_link.specs.declared.line.Line.{Line}
use Rattle.lossy_link.specs.Lines.{flight_from, line_of, all_sent, with_handed, with_acked, AreFine}
use Rattle.lossy_link.specs.Over.{ActsOver, ReceivesOver}
use Rattle.lossy_link.specs.Pending.{pending, weight}
use Rattle.lossy_link.specs.Standing.{flights, whole_net, weighs}
use Rattle.lossy_link.proofs.LineLaws.{handed_fine}
use Rattle.lossy_link.proofs.Waiting.{flights_append, alike_under_way, all_sent_each, handed_each}
use Rattle.lossy_link.proofs.Waiting.{handed_one, acked_each}
use Rattle.lossy_link.proofs.Weights.{weight_append, all_sent_weight, handed_weight, acked_weight}

-- ---- the same packets in another order

runs_alike : (p : ProgramTerms) (c : CodeParts) (net : Net) (qs : List Addressed)
    → RunsCode p c net → Each (IsOnItsWay (length net.sites)) qs
    → RunsCode p c (with_packets qs net)
runs_alike p c net qs runs each = record {
  version = runs.version;
  seen = runs.seen;
  keeps = record { kept = runs.keeps.kept; coded = runs.keeps.coded; packets = each };
  of_code = runs.of_code;
  drawn = runs.drawn;
}

leads_alike : (rules_of : GroupParts → List NumberedRule) (o : Option Event) (n : Numbered)
    (net : Net) (qs : List Addressed) → Leads rules_of n o net
    → ((a : NumberedAtom) → under_way qs a ≡ under_way net.packets a)
    → Leads rules_of n o (with_packets qs net)
leads_alike rules_of None n net qs leads same = stands_alike rules_of net n qs leads same
leads_alike rules_of (Some e) n net qs leads same = record {
  after = leads.after;
  applies = leads.applies;
  stands = stands_alike rules_of net leads.after qs leads.stands same;
}

pub led_alike : (p : ProgramTerms) (c : CodeParts) (n : Numbered) (o : Option Event) (net : Net)
    (qs : List Addressed) → IsLed p c n o net
    → ((a : NumberedAtom) → under_way qs a ≡ under_way net.packets a)
    → Each (IsOnItsWay (length net.sites)) qs → IsLed p c n o (with_packets qs net)
led_alike p c n o net qs led same each = record {
  leads = leads_alike (rules_of_group p) o n net qs led.leads same;
  runs = runs_alike p c net qs led.runs each;
}

-- ---- what is handed out joins what the lines have to deliver

module _ (c : CodeParts) (mid new : NetParts) (out : List FlightFrom) (ls : List Line)
    (fine : AreFine ls) (handed_out : AreHandedOut mid out new) where
  abbrev ps : List Addressed
  ps = flights (pending ls)

  abbrev qs : List Addressed
  qs = flights (pending (all_sent out ls))

  joins : (a : NumberedAtom) → under_way qs a ≡ under_way (ps ++ mid.net.packets) a
  joins a =
      alike_under_way (pending (all_sent out ls)) (pending ls ++ out)
      (λ w. all_sent_weight w out ls fine ∙ sym (weight_append w (pending ls) out)) a
      ∙ ap (λ (xs : List Addressed). under_way xs a) (flights_append (pending ls) out
      ∙ ap (λ (xs : List Addressed). ps ++ xs) handed_out.carried_are)

  pub out_led : (p : ProgramTerms) (n : Numbered) (o : Option Event)
      → IsLed p c n o (with_packets (ps ++ mid.net.packets) mid.net)
      → IsLed p c n o (whole_net new.net (all_sent out ls))
  out_led p n o led =
      let ways = IsOnItsWay (length mid.net.sites) in
      let each = led.runs.keeps.packets in
      let front = Each-left ways ps mid.net.packets each in
      let back : Each ways (flights out) =
      subst (Each ways) (sym handed_out.carried_are) (Each-right ways ps mid.net.packets each) in
      let result : IsLed p c n o (with_packets qs mid.net) =
      led_alike p c n o (with_packets (ps ++ mid.net.packets) mid.net) qs led joins
      (all_sent_each ways out ls fine back front) in
      subst (λ (m : NetParts). IsLed p c n o (with_packets qs m.net)) (sym handed_out.left) result

-- ---- a network without packets

-- is the one whose packets were taken away
pub as_drained : (net : Net) → net.packets ≡ [] → net ≡ with_packets [] net
as_drained net drained = λ i. record net { packets = drained i }

-- with the packet that comes to it
as_with_one : (net mid : Net) (t : ℕ) (bytes : List ℕ) → net.packets ≡ []
    → Delivers (with_last net t bytes) (length net.packets) mid
    → Delivers (with_packets (carried (flight_to t bytes) ∷ []) net) 0 mid
as_with_one net mid t bytes drained h = subst (λ (xs : List Addressed).
    Delivers (with_packets (xs ++ carried (flight_to t bytes) ∷ []) net) (length xs) mid) drained h

-- ---- a choice of the network

pub act_leads : (net new : NetParts) (x : Choice) (e : Event) (out : List FlightFrom)
    (ls : List Line) → IsCode net.code → net.net.packets ≡ [] → AreFine ls
    → ActsOver net x e new out
    → IsLedFrom (whole_net net.net ls) (Some e) (whole_net new.net (all_sent out ls)) net.code
act_leads net new x e out ls code drained fine acts p n is of stands runs =
    let mid = acts.mid in
    let ps = flights (pending ls) in
    let here = subst (λ (m : Net). Acts net.code m x (Some e) mid.net)
    (as_drained net.net drained) acts.acts in
    let on = with_packets (ps ++ mid.net.packets) mid.net in
    let made = acts_framed net.net ps net.code x e mid.net here in
    out_led net.code mid new out ls fine acts.handed_out p n (Some e)
    (one_leads net.code (whole_net net.net ls) on (Some e) code
    (acts_does net.code (whole_net net.net ls) on x (Some e) made) p n is of stands runs)

-- ---- a packet that is received

module _ (net : Net) (f t : ℕ) (bytes : List ℕ) (ls : List Line)
    (at : slice_get (line_of f t ls).history.sent (length (line_of f t ls).history.handed)
    ≡ Some bytes) where
  abbrev packet : FlightFrom
  packet = flight_from f t bytes

  abbrev rest : List Line
  rest = with_handed f t bytes ls

  -- it is one of those that the lines have to deliver
  apart : (a : NumberedAtom)
      → under_way (flights (pending rest) ++ carried packet.flight ∷ []) a
      ≡ under_way (flights (pending ls)) a
  apart a =
      ap (λ (xs : List Addressed). under_way xs a)
      (sym (flights_append (pending rest) (packet ∷ [])))
      ∙ alike_under_way (pending rest ++ packet ∷ []) (pending ls)
      (λ w.
      weight_append w (pending rest) (packet ∷ []) ∙ alone w (handed_weight w f t bytes ls at))
      a
    where
      alone : (w : FlightFrom → ℕ)
          → weight w (pending rest) + w packet ≡ weight w (pending ls)
          → weight w (pending rest) + weight w (packet ∷ []) ≡ weight w (pending ls)
      alone w e = omega arith

  apart_each : (count : ℕ) → Each (IsOnItsWay count) (flights (pending ls))
      → Each (IsOnItsWay count) (flights (pending rest) ++ carried packet.flight ∷ [])
  apart_each count each = Each-append (IsOnItsWay count) (flights (pending rest))
      (carried packet.flight ∷ []) (handed_each (IsOnItsWay count) f t bytes ls at each)
      (handed_one (IsOnItsWay count) f t bytes ls at each, tt)

  -- the network can receive it
  pub may_receive : (c : CodeParts) → RunsSome c (whole_net net ls)
      → RunsSome c (with_packets (carried packet.flight ∷ []) net)
  may_receive c some = runs_some_fewer c (flights (pending rest)) net (carried packet.flight ∷ [])
      (runs_some_alike c (whole_net net ls) (flights (pending rest) ++ carried packet.flight ∷ [])
      some apart (apart_each (length net.sites) some.runs.keeps.packets))

  -- its site is there
  pub has_site : (c : CodeParts) → RunsSome c (whole_net net ls) → t < length net.sites
  has_site c some =
      (handed_one (IsOnItsWay (length net.sites)) f t bytes ls at some.runs.keeps.packets).1

pub receive_leads : (net new : NetParts) (f t : ℕ) (bytes : List ℕ) (out : List FlightFrom)
    (ls : List Line) → IsCode net.code → net.net.packets ≡ [] → AreFine ls
    → slice_get (line_of f t ls).history.sent (length (line_of f t ls).history.handed) ≡ Some bytes
    → ReceivesOver net t bytes new out
    → IsLedFrom (whole_net net.net ls) None
    (whole_net new.net (all_sent out (with_handed f t bytes ls))) net.code
receive_leads net new f t bytes out ls code drained fine at comes p n is of stands runs =
    let mid = comes.mid in
    let left = with_handed f t bytes ls in
    let ps = flights (pending left) in
    let q = carried (flight_to t bytes) in
    let alone = as_with_one net.net mid.net t bytes drained comes.delivers in
    let first = with_packets (ps ++ q ∷ []) net.net in
    let on = with_packets (ps ++ mid.net.packets) mid.net in
    out_led net.code mid new out left (handed_fine f t bytes ls fine at) comes.handed_out p n None
    (one_leads net.code first on None code
    (deliver (length ps) on (delivers_framed net.net mid.net ps q alone)) p n is of
    (stands_alike (rules_of_group p) (whole_net net.net ls) n (ps ++ q ∷ []) stands
    (apart net.net f t bytes ls at))
    (runs_alike p net.code (whole_net net.net ls) (ps ++ q ∷ []) runs
    (apart_each net.net f t bytes ls at (length net.net.sites) runs.keeps.packets)))

-- ---- the other steps

pub same_leads : (net : Net) (c : CodeParts) → IsLedFrom net None net c
same_leads net c p n is of stands runs = record { leads = stands; runs = runs }

-- an acknowledgement leaves what is to be delivered
pub acked_leads : (net : Net) (c : CodeParts) (f t k : ℕ) (ls : List Line)
    → IsLedFrom (whole_net net ls) None (whole_net net (with_acked f t k ls)) c
acked_leads net c f t k ls p n is of stands runs =
    led_alike p c n None (whole_net net ls) (flights (pending (with_acked f t k ls)))
    (record { leads = stands; runs = runs })
    (alike_under_way (pending (with_acked f t k ls)) (pending ls) (λ w. acked_weight w f t k ls))
    (acked_each (IsOnItsWay (length net.sites)) f t k ls runs.keeps.packets)

-- what the links stood for is led on, so they stand for some solution
pub some_led : (c : CodeParts) (old new : Net) (o : Option Event) → RunsSome c old
    → IsLedFrom old o new c → RunsSome c new
some_led c old new o some leads =
    let led = leads some.program some.solution some.is_program some.of_program some.stands
    some.runs in
    go o led.leads led.runs
  where
    go : (o : Option Event) → Leads (rules_of_group some.program) some.solution o new
        → RunsCode some.program c new → RunsSome c new
    go None stands runs = record {
      program = some.program;
      is_program = some.is_program;
      of_program = some.of_program;
      solution = some.solution;
      stands = stands;
      runs = runs;
    }
    go (Some e) stepped runs = record {
      program = some.program;
      is_program = some.is_program;
      of_program = some.of_program;
      solution = stepped.after;
      stands = stepped.stands;
      runs = runs;
    }

-- ---- how many deliveries are left

left_over : (t : Tree) (ps : List FlightFrom)
    → length (flights ps) + misdirected t (flights ps) ≡ weight (weighs t) ps
left_over t [] = refl
left_over t (p ∷ ps) = omega (arith, left_over t ps)

same_tree : (net mid : Net) (k : ℕ) → Delivers net k mid → mid.tree ≡ net.tree
same_tree net mid k h =
    ap (λ (m : Net). m.tree) h.new_is
    ∙ go (among h.site.locs (home_or (root_of h.packet.target) h.packet.msg.on)) _ _ refl refl
  where
    go : (b : Bool) (one other : Net) → one.tree ≡ net.tree → other.tree ≡ net.tree
        → (cond b one other).tree ≡ net.tree
    go true one other p q = p
    go false one other p q = q

-- a receipt takes one
pub receipt_falls : (net new : NetParts) (f t : ℕ) (bytes : List ℕ) (out : List FlightFrom)
    (ls : List Line) → net.net.packets ≡ [] → AreFine ls
    → slice_get (line_of f t ls).history.sent (length (line_of f t ls).history.handed) ≡ Some bytes
    → RunsSome net.code (whole_net net.net ls) → ReceivesOver net t bytes new out
    → weight (weighs net.net.tree) (pending ls)
    ≡ weight (weighs new.net.tree) (pending (all_sent out (with_handed f t bytes ls))) + 1
receipt_falls net new f t bytes out ls drained fine at some comes =
    let left = with_handed f t bytes ls in
    let mid = comes.mid.net in
    let before = net.net.tree in
    let w = weighs before in
    let packet = flight_from f t bytes in
    let alone = as_with_one net.net mid t bytes drained comes.delivers in
    let one = with_packets (flights (packet ∷ [])) net.net in
    let may = may_receive net.net f t bytes ls at net.code some in
    let less : deliveries_left one ≡ deliveries_left mid + 1 =
    deliveries_fall (rules_of_group may.program) one mid may.solution 0 may.stands
    may.runs.keeps.packets alone in
    let here : deliveries_left one ≡ weight w (packet ∷ []) = left_over before (packet ∷ []) in
    let kept : mid.tree ≡ before = same_tree one mid 0 alone in
    let gone : deliveries_left mid ≡ weight w out =
    ap (λ (t : Tree). length mid.packets + misdirected t mid.packets) kept
    ∙ ap (λ (xs : List Addressed). length xs + misdirected before xs)
    (sym comes.handed_out.carried_are) ∙ left_over before out in
    let first = handed_weight w f t bytes ls at in
    let more = all_sent_weight w out left (handed_fine f t bytes ls fine at) in
    let fell : weight w (pending ls) ≡ weight w (pending (all_sent out left)) + 1 = omega arith in
    let tree : new.net.tree ≡ before =
    ap (λ (m : NetParts). m.net.tree) comes.handed_out.left ∙ kept in
    subst
    (λ (t : Tree). weight w (pending ls) ≡ weight (weighs t) (pending (all_sent out left)) + 1)
    (sym tree) fell
