use Rattle.std.proofs.Common.{◌+◌, ◌≤◌}
use Rattle.net_tests.proofs.links.take_steps.Given as goal

abbrev pub invariant-loop-made : goal.invariant-loop-made
invariant-loop-made l = l.links.net.events ≤ 1000 + l.made
