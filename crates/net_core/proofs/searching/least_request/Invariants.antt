use Rattle.net_core.specs.inside.Searched.{IsLeast}
use Rattle.net_core.proofs.searching.least_request.Given as goal

abbrev pub invariant-loop-number : goal.invariant-loop-number
invariant-loop-number l = IsLeast l.version l.sites l.tree l.number l.best
