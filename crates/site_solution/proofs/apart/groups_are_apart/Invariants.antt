use Rattle.std.proofs.Common.{◌≡◌, drop}
use Rattle.std.specs.List.{list_all}
use Rattle.site_solution.specs.inside.Parted.{told_parted}
use Rattle.site_shelves.specs.inside.Index.{told_of}
use Rattle.site_solution.proofs.apart.groups_are_apart.Given as goal

abbrev pub invariant-loop-group : goal.invariant-loop-group
invariant-loop-group l = list_all (told_parted l.site l.loc) (drop l.group (told_of l.from.groups))
    ≡ list_all (told_parted l.site l.loc) (told_of l.from.groups)
