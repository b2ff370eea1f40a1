use Rattle.chem_laws.proofs.Tied.{replay_is_a_run}
use Rattle.chem_laws.proofs.laws.replay_is_a_run.Goals as goal

pub returns : goal.returns
returns c = replay_is_a_run
