use Rattle.net_core.proofs.Leading.{acts_lead}
use Rattle.net_core.proofs.laws.acts_lead.Goals as goal

pub returns : goal.returns
returns c = acts_lead
