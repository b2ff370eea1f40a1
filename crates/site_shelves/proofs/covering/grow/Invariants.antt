use Rattle.site_shelves.specs.inside.Covered.{SameLevels}
use Rattle.site_shelves.proofs.covering.grow.Given as goal

abbrev pub invariant-loop-at : goal.invariant-loop-at
invariant-loop-at l = SameLevels l.fn.levels.items l.levels.items
