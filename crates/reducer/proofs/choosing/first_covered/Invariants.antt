use Rattle.reducer.specs.inside.Searching.{NoneCovered}
use Rattle.reducer.proofs.choosing.first_covered.Given as goal

abbrev pub invariant-loop-guard : goal.invariant-loop-guard
invariant-loop-guard l = NoneCovered l.code l.site l.group l.guard
