use Rattle.std.proofs.Common.{◌≡◌, drop}
use Rattle.std.specs.Prelude.{Some}
use Rattle.chem_model.specs.Apply.{replay_from}
use Rattle.chem_plain.proofs.effect.steps.Given as goal

abbrev pub invariant-loop-event : goal.invariant-loop-event
invariant-loop-event l = replay_from (Some l.reached) (drop l.event-index l.event-items)
    ≡ replay_from (Some l.initial.reached) l.event-items
