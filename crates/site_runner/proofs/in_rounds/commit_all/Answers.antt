use Rattle.site_runner.proofs.Rounding.{commit_item}
use Rattle.site_runner.proofs.in_rounds.commit_all.Goals as goal

pub loop-event-preserved : goal.loop-event-preserved
loop-event-preserved c =
    let more = commit_item c.args.book.now c.loop-event.book c.commit.new.self c.event-item.result
    c.args.events.now c.loop-event.event-index c.in_ok-_commit._commit c.loop-event.invariant.book
    c.loop-event.invariant.follow c.loop-event-test.true c.event-item.is
    c.in_ok-_commit.ensures.done in
    record { book = more.0; follow = more.1 }
