use Rattle.std.proofs.Common.{◌≡◌, ◌++◌, take}
use Rattle.net_core.proofs.tracing.add_copies.Given as goal

abbrev pub invariant-loop-out : goal.invariant-loop-out
invariant-loop-out l = l.all ≡ l.initial.all ++ take l.out-index l.out-items
