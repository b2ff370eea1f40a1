use Rattle.std.proofs.Common.{◌-◌, length}
use Rattle.site_turn.proofs.Requests.{NoneBelow}
use Rattle.site_turn.proofs.next.least_met.Given as goal

abbrev pub invariant-loop-request : goal.invariant-loop-request
invariant-loop-request l = NoneBelow l.version l.tree l.site l.index

abbrev pub decreases-loop-request : goal.decreases-loop-request
decreases-loop-request l = length l.site.requests - l.index
