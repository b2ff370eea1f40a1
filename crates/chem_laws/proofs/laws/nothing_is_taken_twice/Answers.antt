use Rattle.chem_laws.proofs.Tied.{nothing_is_taken_twice}
use Rattle.chem_laws.proofs.laws.nothing_is_taken_twice.Goals as goal

pub returns : goal.returns
returns c = nothing_is_taken_twice
