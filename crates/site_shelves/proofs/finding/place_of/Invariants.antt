use Rattle.std.proofs.Common.{◌≤◌, ◌-◌, length}
use Rattle.site_shelves.specs.inside.Index.{place_of}
use Rattle.site_shelves.proofs.finding.place_of.Given as goal

abbrev pub invariant-loop-low : goal.invariant-loop-low
invariant-loop-low l = record {
  above : l.low ≤ place_of l.serial l.serials;
  below : place_of l.serial l.serials ≤ l.high;
  within : l.high ≤ length l.serials;
}

abbrev pub decreases-loop-low : goal.decreases-loop-low
decreases-loop-low l = l.high - l.low
