use Rattle.net_core.proofs.Playing.{lists_replay}
use Rattle.net_core.proofs.laws.lists_replay.Goals as goal

pub returns : goal.returns
returns c = lists_replay
