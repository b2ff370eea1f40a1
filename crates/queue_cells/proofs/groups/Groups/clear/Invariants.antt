use Rattle.std.proofs.Common.{◌≡◌, ◌+◌, ◌<◌, length}
use Rattle.queue_cells.specs.Grouped.{queue_in, with_queue, lists_at}
use Rattle.queue_cells.proofs.groups.Groups.clear.Given as goal

abbrev pub invariant-messages : goal.invariant-messages
invariant-messages g l = record {
  same :
      l.self.groups
      ≡ with_queue l.fn.self.groups l.group l.chan (queue_in l.self.groups l.group l.chan);
  group : l.group < length l.self.groups;
  chan : l.chan < length (lists_at l.self.groups l.group);
  spare :
      l.self.spare + length (queue_in l.self.groups l.group l.chan)
      ≡ l.fn.self.spare + length (queue_in l.fn.self.groups l.group l.chan);
  rows : l.self.spare_groups ≡ l.fn.self.spare_groups;
}

abbrev pub decreases-messages : goal.decreases-messages
decreases-messages g l = length (queue_in l.self.groups l.group l.chan)
