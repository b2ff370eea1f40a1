-- No event follows one that isn't possible.
use Rattle.std.proofs.Common.{rules, ◌≡◌}
use Rattle.std.specs.Prelude.{None}
use Rattle.chem_model.specs.Apply.{apply}
use Rattle.chem_plain.proofs.Drops.{replay_ends}
use Rattle.chem_plain.proofs.effect.steps.Goals as goal

pub returns-then-not-branch : goal.returns-then-not-branch
returns-then-not-branch c =
    let not_possible : apply c.loop-event.reached c.event-item.result ≡ None = search rules in
    replay_ends c.args.journal.now c.as_slice-event-items.result.now c.args.reached.now
    c.loop-event.reached c.loop-event.event-index c.event-item.result
    c.as_slice-event-items.ensures.members c.loop-event-test.true c.event-item.is not_possible
    c.loop-event.invariant
