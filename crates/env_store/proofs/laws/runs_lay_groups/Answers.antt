use Rattle.env_store.proofs.Tied.{runs_lay_groups}
use Rattle.env_store.proofs.laws.runs_lay_groups.Goals as goal

pub returns : goal.returns
returns c = runs_lay_groups
