use Rattle.std.proofs.Common.{◌≡◌, ◌++◌, drop}
use Rattle.scope_check.specs.Blocks.{defining, sites_of}
use Rattle.scope_check.proofs.block.sites.Given as goal

abbrev pub invariant-loop-tree : goal.invariant-loop-tree
invariant-loop-tree l = l.list.items ++ defining 0 l.end (sites_of (drop l.tree-index l.trees))
    ≡ l.initial.list.items ++ defining 0 1 (sites_of l.trees)
