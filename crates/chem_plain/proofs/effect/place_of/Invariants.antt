use Rattle.std.proofs.Common.{◌≡◌, ◌++◌, take, drop}
use Rattle.chem_model.specs.Apply.{without}
use Rattle.chem_plain.proofs.effect.place_of.Given as goal

abbrev pub invariant-loop-place : goal.invariant-loop-place
invariant-loop-place l =
    take l.place l.atoms ++ without l.id (drop l.place l.atoms) ≡ without l.id l.atoms
