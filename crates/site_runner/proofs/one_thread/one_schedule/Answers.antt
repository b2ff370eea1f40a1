use Rattle.site_runner.proofs.OneSchedule.{one_schedule}
use Rattle.site_runner.proofs.one_thread.one_schedule.Goals as goal

pub returns : goal.returns
returns c = one_schedule c.opening_is_a_start.ensures c.event_is_a_reduction.ensures
