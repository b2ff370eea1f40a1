use Rattle.site_runner.proofs.Rounding.{runs_in_rounds, whole}
use Rattle.site_runner.proofs.in_rounds.rounds.Goals as goal

pub returns-in-Ok-clause-run : goal.returns-in-Ok-clause-run
returns-in-Ok-clause-run g c =
    let r = c.in-Ok.ensures.rounds in
    runs_in_rounds c.stuck_is_quiet.ensures c.args.budget c.args.net r.0 c.args.book
    c.make_rounds.new.book c.are_one.ensures c.requires.within r.1 c.in-Ok.ensures.within

pub returns-in-Ok-clause-whole : goal.returns-in-Ok-clause-whole
returns-in-Ok-clause-whole g c =
    let r = c.in-Ok.ensures.rounds in
    whole c.stuck_is_quiet.ensures c.args.budget c.args.net r.0 c.args.book c.make_rounds.new.book
    c.are_one.ensures c.requires.within r.1
