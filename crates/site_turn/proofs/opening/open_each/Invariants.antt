use Rattle.site_turn.specs.inside.Opening.{IsUpTo}
use Rattle.site_turn.proofs.opening.open_each.Given as goal

abbrev pub invariant-loop-number : goal.invariant-loop-number
invariant-loop-number l = IsUpTo l.code l.number l.opened
