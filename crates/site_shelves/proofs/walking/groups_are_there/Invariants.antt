use Rattle.std.proofs.Common.{◌≡◌, drop}
use Rattle.std.specs.List.{list_all}
use Rattle.site_shelves.specs.inside.InTree.{group_stands}
use Rattle.site_shelves.specs.inside.Index.{groups_of}
use Rattle.site_shelves.proofs.walking.groups_are_there.Given as goal

abbrev pub invariant-loop-group : goal.invariant-loop-group
invariant-loop-group l = list_all (group_stands l.tree) (drop l.group (groups_of l.groups.groups))
    ≡ list_all (group_stands l.tree) (groups_of l.groups.groups)
