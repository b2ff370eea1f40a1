use Rattle.std.proofs.Common.{◌≡◌, ◌≤◌, length, drop}
use Rattle.std.specs.Prelude.{Some}
use Rattle.chem_model.specs.Apply.{both_received, received_all}
use Rattle.chem_plain.proofs.effect.received_all.Given as goal

abbrev pub invariant-loop-index : goal.invariant-loop-index
invariant-loop-index l = (l.index ≤ length l.took)
    × (both_received (Some l.names)
    (received_all l.atoms l.at (drop l.index l.pats) (drop l.index l.took))
    ≡ received_all l.atoms l.at l.pats l.took)
