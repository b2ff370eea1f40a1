use Rattle.std.proofs.Common.{◌≡◌, ◌≤◌, length, drop}
use Rattle.std.specs.Prelude.{None}
use Rattle.chem_model.specs.Numbered.{standing}
use Rattle.chem_commit.proofs.guesses.newest.Given as goal

abbrev pub decreases-loop-left : goal.decreases-loop-left
decreases-loop-left l = l.left

abbrev pub invariant-loop-left : goal.invariant-loop-left
invariant-loop-left l = (l.left ≤ length l.entries) × (standing (drop l.left l.entries) l.at ≡ None)
