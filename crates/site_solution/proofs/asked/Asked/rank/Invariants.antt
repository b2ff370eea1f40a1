use Rattle.std.proofs.Common.{◌≤◌, ◌-◌, length}
use Rattle.site_solution.specs.inside.Rising.{rank}
use Rattle.site_solution.proofs.asked.Asked.rank.Given as goal

abbrev pub invariant-loop-low : goal.invariant-loop-low
invariant-loop-low l = record {
  above : l.low ≤ rank l.id l.self-inside.items.items;
  below : rank l.id l.self-inside.items.items ≤ l.high;
  within : l.high ≤ length l.self-inside.items.items;
}

abbrev pub decreases-loop-low : goal.decreases-loop-low
decreases-loop-low l = l.high - l.low
