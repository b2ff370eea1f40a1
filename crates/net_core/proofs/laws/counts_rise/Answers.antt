use Rattle.net_core.proofs.Rising.{counts_rise}
use Rattle.net_core.proofs.laws.counts_rise.Goals as goal

pub returns : goal.returns
returns c = counts_rise
