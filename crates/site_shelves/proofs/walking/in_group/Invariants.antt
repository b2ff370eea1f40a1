use Rattle.std.proofs.Common.{◌≡◌, drop}
use Rattle.site_shelves.specs.Held.{in_queues}
use Rattle.queue_cells.specs.Grouped.{lists_at}
use Rattle.site_shelves.proofs.walking.in_group.Given as goal

abbrev pub invariant-loop-chan : goal.invariant-loop-chan
invariant-loop-chan l = in_queues l.atom (drop l.chan (lists_at l.groups.groups l.group))
    ≡ in_queues l.atom (lists_at l.groups.groups l.group)
