use Rattle.queue_cells.specs.Grouped.{lists_at}
use Rattle.site_shelves.proofs.CoveredBelow.{NotedBelow}
use Rattle.site_shelves.specs.inside.Covered.{KeepsOthers}
use Rattle.site_shelves.proofs.covering.note.Given as goal

abbrev pub invariant-loop-place : goal.invariant-loop-place
invariant-loop-place l = record {
  below : NotedBelow l.place l.keys l.rules l.serial l.masks (lists_at l.groups.groups l.group);
  others : KeepsOthers l.serial l.fn.keys l.keys;
}
