use Rattle.std.proofs.Common.{drop}
use Rattle.queue_cells.specs.Grouped.{lists_at}
use Rattle.site_shelves.proofs.CoveredBelow.{AreNotedYet}
use Rattle.site_shelves.specs.inside.Covered.{KeepsOthers}
use Rattle.site_shelves.proofs.covering.note_each.Given as goal

abbrev pub invariant-loop-place : goal.invariant-loop-place
invariant-loop-place l = record {
  yet :
      AreNotedYet l.places (drop l.place-index l.places) l.fn.keys l.keys l.first l.masks
      (lists_at l.groups.groups l.group);
  others : KeepsOthers l.first.2 l.fn.keys l.keys;
}
