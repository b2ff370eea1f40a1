use Rattle.std.proofs.Common.{◌≡◌, ◌++◌, drop}
use Rattle.chem_plain.proofs.pour.add_names.Given as goal

abbrev pub invariant-loop-entry : goal.invariant-loop-entry
invariant-loop-entry l =
    l.names ++ drop l.entry-index l.entry-items ≡ l.initial.names ++ l.entry-items
