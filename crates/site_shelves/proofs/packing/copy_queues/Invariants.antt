use Rattle.std.proofs.Common.{◌≡◌, ◌++◌, drop}
use Rattle.queue_cells.specs.Grouped.{lists_at}
use Rattle.net_laws.specs.Parcels.{in_queues}
use Rattle.site_shelves.proofs.packing.copy_queues.Given as goal

abbrev pub invariant-loop-chan : goal.invariant-loop-chan
invariant-loop-chan l = l.list ++ in_queues l.loc (drop l.chan (lists_at l.groups.groups l.group))
    ≡ l.fn.list ++ in_queues l.loc (lists_at l.groups.groups l.group)
