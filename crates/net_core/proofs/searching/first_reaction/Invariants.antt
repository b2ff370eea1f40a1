use Rattle.net_core.proofs.NoneFound.{NoneReady}
use Rattle.net_core.proofs.searching.first_reaction.Given as goal

abbrev pub invariant-loop-number : goal.invariant-loop-number
invariant-loop-number l = NoneReady l.code l.sites l.tree l.number
