use Rattle.std.proofs.Common.{◌≡◌, ◌+◌, length, take}
use Rattle.queue_cells.specs.Grouped.{but_where, waiting_where}
use Rattle.queue_cells.proofs.groups.Groups.remove_where.Given as goal

abbrev pub invariant-loop-group : goal.invariant-loop-group
invariant-loop-group g l = record {
  same :
      but_where (g.S.Selects.is_selected l.gone) l.self.groups
      ≡ but_where (g.S.Selects.is_selected l.gone) l.fn.self.groups;
  count : length l.self.groups ≡ length l.fn.self.groups;
  empty : waiting_where (g.S.Selects.is_selected l.gone) (take l.group l.self.groups) ≡ 0;
  spare :
      l.self.spare + waiting_where (g.S.Selects.is_selected l.gone) l.self.groups
      ≡ l.fn.self.spare + waiting_where (g.S.Selects.is_selected l.gone) l.fn.self.groups;
  rows : l.self.spare_groups ≡ l.fn.self.spare_groups;
}
