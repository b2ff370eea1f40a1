use Rattle.chem_laws.proofs.Framed.{reactions_take_and_make}
use Rattle.chem_laws.proofs.laws.reactions_take_and_make.Goals as goal

pub returns : goal.returns
returns c = reactions_take_and_make
