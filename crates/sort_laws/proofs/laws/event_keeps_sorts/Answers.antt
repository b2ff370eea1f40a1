use Rattle.sort_laws.proofs.Step.{event_keeps}
use Rattle.sort_laws.proofs.laws.event_keeps_sorts.Goals as goal

pub returns : goal.returns
returns c = λ t n m event sound keeps applied. event_keeps t n sound keeps m event applied
