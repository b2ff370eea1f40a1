use Rattle.std.proofs.Common.{◌≡◌, drop}
use Rattle.chem_model.specs.Numbered.{binder_in}
use Rattle.chem_model.proofs.numbered.binder_in.Given as goal

abbrev pub invariant-loop-entry : goal.invariant-loop-entry
invariant-loop-entry l =
    binder_in (drop l.entry-index l.entry-items) l.name ≡ binder_in l.entry-items l.name
