use Rattle.chem_laws.proofs.Tied.{event_is_a_reduction}
use Rattle.chem_laws.proofs.laws.event_is_a_reduction.Goals as goal

pub returns : goal.returns
returns c = event_is_a_reduction
