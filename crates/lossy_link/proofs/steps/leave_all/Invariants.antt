use Rattle.std.proofs.Common.{◌≡◌, [], length}
use Rattle.lossy_link.specs.Lines.{all_sent}
use Rattle.lossy_link.proofs.steps.leave_all.Given as goal

abbrev pub decreases-loop-packet : goal.decreases-loop-packet
decreases-loop-packet l = length l.left

abbrev pub invariant-loop-packet : goal.invariant-loop-packet
invariant-loop-packet l = record {
  sent : all_sent l.left l.lines ≡ all_sent l.fn.packets l.fn.lines;
  none : l.fn.packets ≡ [] → l.left ≡ [];
}
