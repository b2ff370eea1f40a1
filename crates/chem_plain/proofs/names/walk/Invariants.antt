use Rattle.std.proofs.Common.{◌≡◌, drop}
use Rattle.chem_model.specs.Fill.{name_at}
use Rattle.chem_plain.proofs.names.walk.Given as goal

abbrev pub invariant-loop-entry : goal.invariant-loop-entry
invariant-loop-entry l =
    name_at (drop l.entry-index l.entries) l.binder ≡ name_at l.entries l.binder
