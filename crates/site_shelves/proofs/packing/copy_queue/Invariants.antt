use Rattle.std.proofs.Common.{◌≡◌, ◌++◌}
use Rattle.queue_cells.specs.Grouped.{queue_in}
use Rattle.net_laws.specs.Parcels.{in_queue}
use Rattle.site_shelves.proofs.packing.copy_queue.Given as goal

abbrev pub invariant-loop-msg : goal.invariant-loop-msg
invariant-loop-msg l = l.list ++ in_queue l.loc l.msg-iterator
    ≡ l.fn.list ++ in_queue l.loc (queue_in l.groups.groups l.group l.chan)
