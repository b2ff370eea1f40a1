use Rattle.std.proofs.Common.{◌≡◌, ◌++◌, drop}
use Rattle.chem_model.specs.Reduction.{given}
use Rattle.chem_plain.proofs.effect.given.Given as goal

abbrev pub invariant-loop-at : goal.invariant-loop-at
invariant-loop-at l =
    l.list ++ given (drop l.at l.params) (drop l.at l.names) ≡ given l.params l.names
