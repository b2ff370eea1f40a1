use Rattle.std.proofs.Common.{◌≡◌, drop}
use Rattle.chem_model.specs.Apply.{without_all}
use Rattle.chem_plain.proofs.effect.take_out_all.Given as goal

abbrev pub invariant-loop-id : goal.invariant-loop-id
invariant-loop-id l =
    without_all (drop l.id-index l.id-items) l.atoms ≡ without_all l.id-items l.initial.atoms
