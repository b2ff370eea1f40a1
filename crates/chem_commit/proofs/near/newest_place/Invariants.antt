use Rattle.std.proofs.Common.{◌≤◌, ◌<◌}
use Rattle.chem_commit.proofs.near.newest_place.Given as goal

abbrev pub decreases-loop-left : goal.decreases-loop-left
decreases-loop-left l = l.left

abbrev pub invariant-loop-left : goal.invariant-loop-left
invariant-loop-left l = (l.left ≤ l.count) × (l.least < l.left → l.place < l.count)
