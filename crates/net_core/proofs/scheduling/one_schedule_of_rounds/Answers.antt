use Rattle.net_core.proofs.SomeSchedule.{one_schedule_of_rounds}
use Rattle.net_core.proofs.scheduling.one_schedule_of_rounds.Goals as goal

pub returns : goal.returns
returns c = one_schedule_of_rounds
