use Rattle.net_laws.proofs.Play.{network_runs}
use Rattle.net_laws.proofs.laws.network_runs.Goals as goal

pub returns : goal.returns
returns c = λ rules_of. network_runs rules_of
