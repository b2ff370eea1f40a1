use Rattle.net_core.proofs.Alone.{IsComing}
use Rattle.net_core.proofs.turn.work_off.Given as goal

abbrev pub invariant-loop-flight : goal.invariant-loop-flight
invariant-loop-flight l =
    IsComing l.code l.tree l.initial.site.number l.flights l.flight-index l.initial.site l.site l.on
