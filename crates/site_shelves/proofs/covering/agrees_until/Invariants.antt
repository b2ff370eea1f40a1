use Rattle.site_shelves.proofs.Begins.{AreAhead}
use Rattle.site_shelves.proofs.covering.agrees_until.Given as goal

abbrev pub invariant-loop-begin : goal.invariant-loop-begin
invariant-loop-begin l = AreAhead l.code l.levels l.key l.begins l.begin-iterator
