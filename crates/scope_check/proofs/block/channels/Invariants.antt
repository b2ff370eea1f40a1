use Rattle.std.proofs.Common.{◌≡◌, ◌++◌, drop}
use Rattle.scope_check.specs.Blocks.{channels}
use Rattle.scope_check.proofs.block.channels.Given as goal

abbrev pub invariant-loop-pat : goal.invariant-loop-pat
invariant-loop-pat l = l.list.items ++ channels l.at (drop l.pat-index l.pats)
    ≡ l.initial.list.items ++ channels l.at l.pats
