use Rattle.chem_laws.proofs.Tied.{stuck_is_quiet}
use Rattle.chem_laws.proofs.laws.stuck_is_quiet.Goals as goal

pub returns : goal.returns
returns c = stuck_is_quiet
