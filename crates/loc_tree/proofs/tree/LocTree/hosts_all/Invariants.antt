use Rattle.std.proofs.Common.{◌≡◌, drop}
use Rattle.loc_tree.specs.Tree.{hosts_all}
use Rattle.loc_tree.proofs.tree.LocTree.hosts_all.Given as goal

abbrev pub invariant-loop-pair : goal.invariant-loop-pair
invariant-loop-pair l =
    hosts_all l.self l.number (drop l.pair-index l.pairs) ≡ hosts_all l.self l.number l.pairs
