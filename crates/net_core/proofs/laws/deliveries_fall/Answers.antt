use Rattle.net_core.proofs.Falling.{deliveries_fall}
use Rattle.net_core.proofs.laws.deliveries_fall.Goals as goal

pub returns : goal.returns
returns c = deliveries_fall
