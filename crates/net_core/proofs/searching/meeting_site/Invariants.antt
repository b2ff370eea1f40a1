use Rattle.net_core.specs.inside.Searched.{NoneMeets}
use Rattle.net_core.proofs.searching.meeting_site.Given as goal

abbrev pub invariant-loop-number : goal.invariant-loop-number
invariant-loop-number l = NoneMeets l.version l.sites l.tree l.choice l.number
