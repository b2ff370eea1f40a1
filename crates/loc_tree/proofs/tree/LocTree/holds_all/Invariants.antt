use Rattle.std.proofs.Common.{◌≡◌, drop}
use Rattle.loc_tree.specs.Tree.{holds_all}
use Rattle.loc_tree.proofs.tree.LocTree.holds_all.Given as goal

abbrev pub invariant-loop-pair : goal.invariant-loop-pair
invariant-loop-pair l =
    holds_all l.self (drop l.pair-index l.pairs) ≡ holds_all l.self l.pairs
