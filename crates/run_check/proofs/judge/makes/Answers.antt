use Rattle.run_check.proofs.Judging.{impossible}
use Rattle.run_check.proofs.judge.makes.Goals as goal

pub returns-in-NotEnabled : goal.returns-in-NotEnabled
returns-in-NotEnabled c =
    let done = rw c.in-NotEnabled.is at c.in_ok-commit.ensures.done in
    impossible c.args.book.now c.commit.new.self c.args.event.now c.replays.ensures done.0 done.1

pub returns-in-Place : goal.returns-in-Place
returns-in-Place c = (rw c.in-Place.is at c.in_ok-commit.ensures.done).2
