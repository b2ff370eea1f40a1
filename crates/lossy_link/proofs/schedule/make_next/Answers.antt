use Rattle.std.proofs.Common.{arith}
use Rattle.lossy_link.specs.Whole.{links_of}
use Rattle.lossy_link.proofs.Coming.{made_event}
use Rattle.lossy_link.proofs.schedule.make_next.Goals as goal

pub act-requires-clause-few : goal.act-requires-clause-few
act-requires-clause-few c =
    let counted = c.requires.one.counted in
    let room = c.requires.room in
    omega arith

pub returns-clause-makes : goal.returns-clause-makes
returns-clause-makes c =
    made_event (links_of c.args.parts.now) (links_of c.act.new.parts) c.args.choice.now
    c.in_ok-event.event c.in_ok-_commit._commit c.args.book.now c.append.new.self c.requires.one
    c.in_ok-event.ensures.steps c.in_ok-event.ensures.leads c.in_ok-_commit.ensures.done
