use Rattle.net_laws.proofs.Guarded.{runs_are_guarded}
use Rattle.net_laws.proofs.laws.runs_are_guarded.Goals as goal

pub returns : goal.returns
returns c = runs_are_guarded
