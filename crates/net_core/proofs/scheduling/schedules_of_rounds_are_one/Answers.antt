use Rattle.net_core.proofs.Scheduled.{schedules_of_rounds_are_one}
use Rattle.net_core.proofs.scheduling.schedules_of_rounds_are_one.Goals as goal

pub returns : goal.returns
returns c = schedules_of_rounds_are_one
