use Rattle.lossy_link.proofs.SoFar.{IsPlaying}
use Rattle.lossy_link.proofs.links.LinkNet.play.Given as goal

abbrev pub invariant-loop-at : goal.invariant-loop-at
invariant-loop-at l = IsPlaying l.fn.self l.steps l.at l.events.items l.links
