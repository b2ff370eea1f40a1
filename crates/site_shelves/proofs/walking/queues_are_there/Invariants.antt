use Rattle.std.proofs.Common.{◌≡◌, drop}
use Rattle.site_shelves.specs.inside.InTree.{queues_stand}
use Rattle.queue_cells.specs.Grouped.{lists_at}
use Rattle.site_shelves.proofs.walking.queues_are_there.Given as goal

abbrev pub invariant-loop-chan : goal.invariant-loop-chan
invariant-loop-chan l = queues_stand l.tree (drop l.chan (lists_at l.groups.groups l.group))
    ≡ queues_stand l.tree (lists_at l.groups.groups l.group)
