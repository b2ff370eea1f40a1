use Rattle.std.proofs.Common.{◌≡◌, ◌+◌, ◌<◌, ℕ, [], length}
use Rattle.queue_cells.specs.Grouped.{queue_in, lists_at, waiting}
use Rattle.queue_cells.specs.inside.Grouped.{emptied}
use Rattle.queue_cells.proofs.groups.Groups.empty.Given as goal

abbrev pub invariant-loop-chan : goal.invariant-loop-chan
invariant-loop-chan g l = record {
  same : emptied l.self.groups l.group ≡ emptied l.fn.self.groups l.group;
  count : length l.self.groups ≡ length l.fn.self.groups;
  wide : length (lists_at l.self.groups l.group) ≡ l.width;
  empty : (c : ℕ) → c < l.chan → queue_in l.self.groups l.group c ≡ [];
  spare :
      l.self.spare + waiting (lists_at l.self.groups l.group)
      ≡ l.fn.self.spare + waiting (lists_at l.fn.self.groups l.group);
  rows : l.self.spare_groups ≡ l.fn.self.spare_groups;
}
