use Rattle.lossy_link.proofs.Ended.{runs_over_links, lossy_of}
use Rattle.lossy_link.proofs.schedule.lossy.Goals as goal

pub returns-in-Ok-clause-run : goal.returns-in-Ok-clause-run
returns-in-Ok-clause-run c =
    runs_over_links c.stuck_is_quiet.ensures c.args.budget c.args.loss c.args.net c.args.book
    c.over_links.new.book c.in-Ok.counts c.are_one.ensures c.in-Ok.ensures.run

pub returns-in-Ok-clause-whole : goal.returns-in-Ok-clause-whole
returns-in-Ok-clause-whole c =
    lossy_of c.stuck_is_quiet.ensures c.args.budget c.args.loss c.args.net c.args.book
    c.over_links.new.book c.in-Ok.counts c.are_one.ensures c.in-Ok.ensures.run
