use Rattle.net_core.proofs.Ending.{rounds_replay}
use Rattle.net_core.proofs.scheduling.rounds_replay.Goals as goal

pub returns : goal.returns
returns c = rounds_replay
