use Rattle.std.proofs.Common.{◌≡◌, ◌++◌, drop}
use Rattle.net_laws.specs.Parcels.{groups_at, in_all_queues}
use Rattle.site_shelves.specs.inside.Index.{groups_of}
use Rattle.site_shelves.proofs.packing.copy_queued.Given as goal

abbrev pub invariant-loop-group : goal.invariant-loop-group
invariant-loop-group l =
    l.list ++ in_all_queues (groups_at l.loc (drop l.group (groups_of l.groups.groups)))
    ≡ l.fn.list ++ in_all_queues (groups_at l.loc (groups_of l.groups.groups))
