use Rattle.site_shelves.proofs.CoveredBelow.{AgreesBelow}
use Rattle.site_shelves.proofs.covering.agrees.Given as goal

abbrev pub invariant-loop-number : goal.invariant-loop-number
invariant-loop-number l = AgreesBelow l.number l.code l.covering.levels.items
