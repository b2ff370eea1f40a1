use Rattle.std.proofs.Common.{◌≡◌, Some, true, refl, sym, subst}
use Rattle.chem_model.specs.Each.{Each}
use Rattle.wire_packet.specs.GroupFacts.{RequestParts}
use Rattle.wire_packet.specs.declared.packet.Ask.{Ask}
use Rattle.wire_packet.specs.declared.packet.Ask.TheVariants as request
use Rattle.loc_tree.specs.Tree.{Tree}
use Rattle.net_laws.specs.Site.{Site}
use Rattle.net_laws.specs.Holding.{request_with}
use Rattle.site_solution.specs.declared.effects.Effects.{Effects}
use Rattle.migration.specs.Within.{IsMoveWithin}
use Rattle.failure.specs.Detects.{IsDetection}
use Rattle.reducer.proofs.Reactions.{if_ok}
use Rattle.site_turn.specs.Mail.{IsMessageFlight}
use Rattle.site_turn.specs.Next.{may_meet}
use Rattle.site_turn.specs.After.{event_for, FitsHere}
use Rattle.site_turn.proofs.Choices.{can_go_now, can_detect_now, can_halt_now}
use Rattle.site_turn.proofs.Acting.{ask_met_sent}
use Rattle.site_turn.proofs.asks.meet.Goals as goal

-- of the request as its fields tell it
here_of : (s : Site) (q r : RequestParts) → q ≡ r → request_with r.id s.requests ≡ Some r
    → request_with q.id s.requests ≡ Some q
here_of s q r same here =
    subst (λ (x : RequestParts). request_with x.id s.requests ≡ Some x) (sym same) here

met_of : (t : Tree) (s : Site) (q r : RequestParts) → q ≡ r → may_meet 2 t s r.id ≡ true
    → may_meet 2 t s q.id ≡ true
met_of t s q r same met = subst (λ (x : RequestParts). may_meet 2 t s x.id ≡ true) (sym same) met

pub move_within-requires : goal.move_within-requires
move_within-requires c =
    let t = c.args.tree.now in
    let s = c.args.site.now in
    let q : RequestParts =
    record { id = c.request.inside.id; loc = c.request.inside.loc; ask = c.request.inside.ask } in
    record {
      in_tree = c.requires.there;
      draws = c.requires.draws;
      may = can_go_now 2 t s q.id q
          (here_of s q c.args.request.now c.request.view_is c.requires.here)
          (met_of t s q c.args.request.now c.request.view_is c.requires.met)
          c.in-Go.target c.in-Go.cont c.in-Go.is;
      hosted = subst (λ (v : Ask). FitsHere s (event_for v c.request.inside.id)) c.in-Go.is
          (subst (λ (x : RequestParts). FitsHere s (event_for x.ask x.id)) (sym c.request.view_is)
          c.requires.fits);
    }

pub detect-requires-clause-dead : goal.detect-requires-clause-dead
detect-requires-clause-dead c =
    let t = c.args.tree.now in
    let s = c.args.site.now in
    let q : RequestParts =
    record { id = c.request.inside.id; loc = c.request.inside.loc; ask = c.request.inside.ask } in
    can_detect_now 2 t s q.id q (here_of s q c.args.request.now c.request.view_is c.requires.here)
    (met_of t s q c.args.request.now c.request.view_is c.requires.met)
    c.in-Fail.target c.in-Fail.cont c.in-Fail.is

pub halt-event-requires-clause-ready : goal.halt-event-requires-clause-ready
halt-event-requires-clause-ready c =
    let t = c.args.tree.now in
    let s = c.args.site.now in
    let q : RequestParts =
    record { id = c.request.inside.id; loc = c.request.inside.loc; ask = c.request.inside.ask } in
    can_halt_now 2 t s q.id q (here_of s q c.args.request.now c.request.view_is c.requires.here)
    (met_of t s q c.args.request.now c.request.view_is c.requires.met) c.in-Halt.is

pub returns-in-Go-clause-sends : goal.returns-in-Go-clause-sends
returns-in-Go-clause-sends c =
    let seen = c.args.counts.now in
    let t = c.args.tree.now in
    let s = c.args.site.now in
    let a = c.request.inside.id in
    let u = c.move_within.new.tree in
    let new = c.move_within.new.site in
    if_ok (λ (e : Effects). IsMoveWithin seen a t s u new e)
    (λ (e : Effects). Each IsMessageFlight e.sends) c.move_within.result
    (λ e h. ask_met_sent seen t s a u new e (request.Go c.in-Go.target c.in-Go.cont) h)
    c.move_within.ensures.ok

pub returns-in-Fail-clause-sends : goal.returns-in-Fail-clause-sends
returns-in-Fail-clause-sends c =
    let seen = c.args.counts.now in
    let t = c.args.tree.now in
    let s = c.args.site.now in
    let a = c.request.inside.id in
    let new = c.detect.new.site in
    if_ok (λ (e : Effects). IsDetection seen a t s new e)
    (λ (e : Effects). Each IsMessageFlight e.sends) c.detect.result
    (λ e h.
    ask_met_sent seen t s a t new e (request.Fail c.in-Fail.target c.in-Fail.cont) (h, refl))
    c.detect.ensures.ok
