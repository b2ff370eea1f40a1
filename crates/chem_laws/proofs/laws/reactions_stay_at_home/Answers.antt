use Rattle.chem_laws.proofs.Tied.{reactions_stay_at_home}
use Rattle.chem_laws.proofs.laws.reactions_stay_at_home.Goals as goal

pub returns : goal.returns
returns c = reactions_stay_at_home
