use Rattle.net_core.proofs.Idling.{IsWaking}
use Rattle.net_core.proofs.idle.wake.Given as goal

abbrev pub invariant-loop-flight : goal.invariant-loop-flight
invariant-loop-flight l = IsWaking l.flights l.flight-index l.initial.idle.items l.idle.items
