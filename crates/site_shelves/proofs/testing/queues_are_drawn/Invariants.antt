use Rattle.std.proofs.Common.{◌≡◌, drop}
use Rattle.site_shelves.specs.Draws.{queues_drawn}
use Rattle.queue_cells.specs.Grouped.{lists_at}
use Rattle.site_shelves.proofs.testing.queues_are_drawn.Given as goal

abbrev pub invariant-loop-chan : goal.invariant-loop-chan
invariant-loop-chan l =
    queues_drawn l.count.number l.count.made (drop l.chan (lists_at l.groups.groups l.group))
    ≡ queues_drawn l.count.number l.count.made (lists_at l.groups.groups l.group)
