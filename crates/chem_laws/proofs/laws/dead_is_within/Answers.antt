use Rattle.chem_laws.proofs.Within.{dead_is_within}
use Rattle.chem_laws.proofs.laws.dead_is_within.Goals as goal

pub returns : goal.returns
returns c = dead_is_within
