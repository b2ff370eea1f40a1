-- A schedule of one thread is the one that there is, and so is that of the rounds of a code, and
-- its run over links.
use Rattle.join_top.proofs.OneRun.{alone_is_one, counts_are_one, links_are_one, rounds_are_one}
use Rattle.join_top.proofs.making.one_run.Goals as goal

pub returns-clause-alone : goal.returns-clause-alone
returns-clause-alone c = alone_is_one c.one_schedule.ensures

pub returns-clause-rounds : goal.returns-clause-rounds
returns-clause-rounds c = rounds_are_one c.schedules_of_rounds_are_one.ensures

pub returns-clause-lossy : goal.returns-clause-lossy
returns-clause-lossy c = links_are_one c.runs_without_links_are_one.ensures

pub returns-clause-counts : goal.returns-clause-counts
returns-clause-counts c = counts_are_one c.runs_over_links_are_one.ensures
