use Rattle.std.proofs.Common.{◌≡◌, ◌++◌, drop}
use Rattle.scope_check.specs.Blocks.{observed_from}
use Rattle.scope_check.proofs.block.observed.Given as goal

abbrev pub invariant-loop-declaration : goal.invariant-loop-declaration
invariant-loop-declaration l =
    l.list.items ++ observed_from l.index (drop l.declaration-index l.seen)
    ≡ l.initial.list.items ++ observed_from 0 l.seen
