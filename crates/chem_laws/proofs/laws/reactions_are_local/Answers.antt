use Rattle.chem_laws.proofs.Tied.{reactions_are_local}
use Rattle.chem_laws.proofs.laws.reactions_are_local.Goals as goal

pub returns : goal.returns
returns c = reactions_are_local
