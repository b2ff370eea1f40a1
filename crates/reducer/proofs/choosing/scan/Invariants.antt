use Rattle.reducer.proofs.BestOf.{IsBest}
use Rattle.reducer.proofs.choosing.scan.Given as goal

abbrev pub invariant-loop-group : goal.invariant-loop-group
invariant-loop-group l = IsBest l.code l.tree l.site l.group l.best
