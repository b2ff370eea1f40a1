use Rattle.std.proofs.Common.{◌≡◌, ◌++◌, drop}
use Rattle.chem_model.specs.Pour.{known}
use Rattle.chem_plain.proofs.pour.known_names.Given as goal

abbrev pub invariant-loop-occurrence : goal.invariant-loop-occurrence
invariant-loop-occurrence l =
    l.list ++ known (drop l.occurrence-index l.occurrence-items) ≡ known l.occurrence-items
