use Rattle.std.proofs.Common.{◌≡◌, ◌∙◌, List, arith, sym, subst, drop, length}
use Rattle.chem_model.specs.declared.event.Event.{Event}
use Rattle.net_core.specs.declared.plays.PlayStop.{PlayStop}
use Rattle.lossy_link.specs.Played.{Stops}
use Rattle.lossy_link.proofs.SoFar.{IsPlaying}
use Rattle.lossy_link.proofs.StepsMade.{none_played, more_at, stuck_at, none_left, all_played}
use Rattle.lossy_link.proofs.links.LinkNet.play.Goals as goal

pub loop-at-init : goal.loop-at-init
loop-at-init c =
    subst (λ (es : List Event). IsPlaying c.args.self c.args.steps.now 0 es c.args.self)
    (sym c.new-events.ensures.items) (none_played c.args.self c.args.steps.now)

pub ended-requires : goal.ended-requires
ended-requires c = let few = c.loop-at.invariant.few in omega arith

pub returns-then-not-enabled : goal.returns-then-not-enabled
returns-then-not-enabled c =
    let old = c.args.self in
    let xs = c.args.steps.now in
    let n = c.loop-at.at in
    let new = c.loop-at.links in
    let stuck = stuck_at old xs n _ new c.enabled.result c.loop-at-test.true c.enabled.ensures
    c.if-not-enabled.true in
    all_played old xs n c.loop-at.events.items new c.ended.result c.is_kept.ensures (omega arith)
    c.loop-at.invariant c.ended.ensures.events c.ended.ensures.done
    (subst (λ (k : PlayStop). Stops k new (drop n xs)) (sym c.ended.ensures.stop) stuck)

pub go_on-requires-clause-few : goal.go_on-requires-clause-few
go_on-requires-clause-few c =
    let few = c.loop-at.invariant.few in
    let events = c.loop-at.invariant.events in
    omega arith

pub loop-at-preserved : goal.loop-at-preserved
loop-at-preserved c = more_at c.args.self c.args.steps.now c.loop-at.at _ c.loop-at.events.items
    c.go_on.new.events.items c.loop-at.links c.in_ok-links.links c.loop-at-test.true
    c.loop-at.invariant c.in_ok-links.ensures

pub ended-requires-2 : goal.ended-requires-2
ended-requires-2 c = let few = c.loop-at.invariant.few in omega arith

pub returns : goal.returns
returns c =
    let old = c.args.self in
    let xs = c.args.steps.now in
    let n = c.loop-at.at in
    let new = c.loop-at.links in
    let all : n ≡ length xs = omega arith in
    all_played old xs n c.loop-at.events.items new c.ended-2.result c.is_kept.ensures (omega arith)
    c.loop-at.invariant c.ended-2.ensures.events (c.ended-2.ensures.done ∙ sym all)
    (subst (λ (k : PlayStop). Stops k new (drop n xs)) (sym c.ended-2.ensures.stop)
    (none_left old xs n (omega arith)))
