use Rattle.site_shelves.specs.inside.Covered.{KeepsOthers}
use Rattle.site_shelves.proofs.covering.drop_keys.Given as goal

abbrev pub invariant-loop-place : goal.invariant-loop-place
invariant-loop-place l = KeepsOthers l.serial l.fn.keys l.keys
