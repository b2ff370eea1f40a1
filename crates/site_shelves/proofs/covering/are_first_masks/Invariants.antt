use Rattle.site_shelves.specs.inside.Covered.{AreMasksBelow}
use Rattle.site_shelves.proofs.covering.are_first_masks.Given as goal

abbrev pub invariant-loop-place : goal.invariant-loop-place
invariant-loop-place l = AreMasksBelow l.place l.code l.first l.masks
