use Rattle.std.proofs.Common.{◌≡◌, ◌++◌, drop}
use Rattle.chem_model.specs.Apply.{with_marks}
use Rattle.chem_plain.proofs.effect.with_marks.Given as goal

abbrev pub invariant-loop-placed : goal.invariant-loop-placed
invariant-loop-placed l =
    l.list ++ with_marks l.at (drop l.placed-index l.placed-items) ≡ with_marks l.at l.placed-items
