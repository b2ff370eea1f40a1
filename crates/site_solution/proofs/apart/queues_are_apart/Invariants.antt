use Rattle.std.proofs.Common.{◌≡◌, drop}
use Rattle.std.specs.List.{list_all}
use Rattle.site_solution.specs.inside.Parted.{message_apart}
use Rattle.queue_cells.specs.Grouped.{lists_at}
use Rattle.site_solution.proofs.apart.queues_are_apart.Given as goal

abbrev pub invariant-loop-chan : goal.invariant-loop-chan
invariant-loop-chan l =
    list_all (list_all (message_apart l.site l.but)) (drop l.chan (lists_at l.from.groups l.group))
    ≡ list_all (list_all (message_apart l.site l.but)) (lists_at l.from.groups l.group)
