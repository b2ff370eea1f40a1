use Rattle.std.proofs.Common.{◌≡◌, drop}
use Rattle.std.specs.List.{list_all}
use Rattle.site_shelves.specs.Draws.{group_drawn}
use Rattle.site_shelves.specs.inside.Index.{groups_of}
use Rattle.site_shelves.proofs.testing.groups_are_drawn.Given as goal

abbrev pub invariant-loop-group : goal.invariant-loop-group
invariant-loop-group l =
    list_all (group_drawn l.count.number l.count.made) (drop l.group (groups_of l.groups.groups))
    ≡ list_all (group_drawn l.count.number l.count.made) (groups_of l.groups.groups)
