use Rattle.net_core.proofs.SoFar.{IsPlaying}
use Rattle.net_core.proofs.net.Net.play.Given as goal

abbrev pub invariant-loop-at : goal.invariant-loop-at
invariant-loop-at l = IsPlaying l.fn.self l.choices l.at l.events.items l.self
