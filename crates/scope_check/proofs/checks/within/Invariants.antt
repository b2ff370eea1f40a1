use Rattle.std.proofs.Common.{◌≡◌, drop}
use Rattle.scope_check.specs.inside.Order.{first_of}
use Rattle.scope_check.specs.Blocks.{sites_of}
use Rattle.scope_check.specs.inside.FaultList.{level_faults}
use Rattle.scope_check.proofs.checks.within.Given as goal

abbrev pub invariant-loop-tree : goal.invariant-loop-tree
invariant-loop-tree l = first_of l.least (level_faults (sites_of (drop l.tree-index l.trees)))
    ≡ first_of l.initial.least (level_faults (sites_of l.trees))
