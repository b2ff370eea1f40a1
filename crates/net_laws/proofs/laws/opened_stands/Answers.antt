use Rattle.net_laws.proofs.Opened.{opened_stands}
use Rattle.net_laws.proofs.laws.opened_stands.Goals as goal

pub returns : goal.returns
returns c = opened_stands
