use Rattle.lossy_link.proofs.Ended.{loss_is_hidden}
use Rattle.lossy_link.proofs.laws.loss_is_hidden.Goals as goal

pub returns : goal.returns
returns c = loss_is_hidden
