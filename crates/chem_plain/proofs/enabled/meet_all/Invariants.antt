use Rattle.std.proofs.Common.{◌≡◌, ◌≤◌, length, drop}
use Rattle.std.specs.Prelude.{is_some}
use Rattle.chem_model.specs.Apply.{received_all}
use Rattle.chem_plain.proofs.enabled.meet_all.Given as goal

abbrev pub invariant-loop-index : goal.invariant-loop-index
invariant-loop-index l = (l.index ≤ length l.took)
    × (is_some (received_all l.atoms l.at (drop l.index l.pats) (drop l.index l.took))
    ≡ is_some (received_all l.atoms l.at l.pats l.took))
