use Rattle.net_core.proofs.OneAnswer.{acts_are_one}
use Rattle.net_core.proofs.scheduling.acts_are_one.Goals as goal

pub returns : goal.returns
returns c = acts_are_one
