use Rattle.std.proofs.Common.{◌≤◌, ◌-◌, length}
use Rattle.net_core.proofs.asking.count_requests.Given as goal

abbrev pub invariant-loop-request : goal.invariant-loop-request
invariant-loop-request l = l.count ≤ length l.site.requests

abbrev pub decreases-loop-request : goal.decreases-loop-request
decreases-loop-request l = length l.site.requests - l.count
