use Rattle.site_runner.proofs.Rounding.{made_some, made_none}
use Rattle.site_runner.proofs.in_rounds.make.Goals as goal

pub returns-in_ok-_commit : goal.returns-in_ok-_commit
returns-in_ok-_commit c =
    made_some c.args.net.now c.act.new.self c.args.book.now c.append.new.self c.args.choice.now
    c.requires.one c.few_under_way.ensures c.in-Some.event c.in_ok-_commit._commit
    (rw c.in-Some.is at c.in_ok-acted.ensures.ok) c.in_ok-_commit.ensures.done

pub returns-in_default : goal.returns-in_default
returns-in_default c =
    made_none c.args.net.now c.act.new.self c.args.book.now c.args.book.now c.args.choice.now
    c.requires.one c.few_under_way.ensures (rw c.in_default.is at c.in_ok-acted.ensures.ok)
    (λ t. c.args.book.now)
