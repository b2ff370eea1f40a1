use Rattle.net_laws.proofs.Opening.{start_stands}
use Rattle.net_laws.proofs.laws.start_stands.Goals as goal

pub returns : goal.returns
returns c = λ rules_of. start_stands rules_of
