use Rattle.std.proofs.Common.{◌≡◌, ◌≤◌, length, drop, false}
use Rattle.chem_causes.specs.Ready.{is_met}
use Rattle.book_store.proofs.possible.is_met_by.Given as goal

abbrev pub decreases-loop-left : goal.decreases-loop-left
decreases-loop-left l = l.left

abbrev pub invariant-loop-left : goal.invariant-loop-left
invariant-loop-left l =
    (l.left ≤ length l.atoms) × (is_met (drop l.left l.atoms) l.at l.pat ≡ false)
