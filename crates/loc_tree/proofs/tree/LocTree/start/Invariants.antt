use Rattle.std.proofs.Common.{◌≡◌}
use Rattle.loc_tree.specs.Tree.{roots_from}
use Rattle.loc_tree.proofs.tree.LocTree.start.Given as goal

abbrev pub invariant-loop-site : goal.invariant-loop-site
invariant-loop-site l = l.spots.entries ≡ roots_from 0 l.site
