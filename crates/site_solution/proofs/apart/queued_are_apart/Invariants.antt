use Rattle.std.proofs.Common.{◌≡◌, drop}
use Rattle.std.specs.List.{list_all}
use Rattle.site_solution.specs.inside.Parted.{queues_parted}
use Rattle.site_shelves.specs.inside.Index.{groups_of}
use Rattle.site_solution.proofs.apart.queued_are_apart.Given as goal

abbrev pub invariant-loop-group : goal.invariant-loop-group
invariant-loop-group l =
    list_all (queues_parted l.site l.but l.loc) (drop l.group (groups_of l.from.groups))
    ≡ list_all (queues_parted l.site l.but l.loc) (groups_of l.from.groups)
