use Rattle.chem_laws.proofs.Tied.{declared_counts_stay}
use Rattle.chem_laws.proofs.laws.declared_counts_stay.Goals as goal

pub returns : goal.returns
returns c = declared_counts_stay
