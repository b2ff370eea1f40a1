use Rattle.chem_laws.proofs.Tied.{opening_is_a_start}
use Rattle.chem_laws.proofs.laws.opening_is_a_start.Goals as goal

pub returns : goal.returns
returns c = opening_is_a_start
