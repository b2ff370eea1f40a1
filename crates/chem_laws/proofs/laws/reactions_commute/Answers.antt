use Rattle.chem_laws.proofs.Tied.{reactions_commute}
use Rattle.chem_laws.proofs.laws.reactions_commute.Goals as goal

pub returns : goal.returns
returns c = reactions_commute
