use Rattle.std.proofs.Common.{◌≡◌, ◌++◌, drop}
use Rattle.scope_check.specs.Stands.{seen_decls}
use Rattle.scope_check.proofs.checks.declarations.Given as goal

abbrev pub invariant-loop-tree : goal.invariant-loop-tree
invariant-loop-tree l = l.list ++ seen_decls (drop l.tree-index l.trees) ≡ seen_decls l.trees
