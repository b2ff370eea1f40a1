use Rattle.net_core.proofs.Playing.{opened_play}
use Rattle.net_core.proofs.laws.opened_play.Goals as goal

pub returns : goal.returns
returns c = opened_play
