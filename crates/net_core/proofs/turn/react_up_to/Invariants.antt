use Rattle.net_core.proofs.Alone.{IsReacting}
use Rattle.net_core.proofs.turn.react_up_to.Given as goal

abbrev pub invariant-loop-event : goal.invariant-loop-event
invariant-loop-event l =
    IsReacting l.code l.tree l.initial.site.number l.quota l._event l.initial.site l.site l.made
