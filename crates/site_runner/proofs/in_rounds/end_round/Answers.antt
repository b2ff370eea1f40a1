-- Once the events are in the book, the openings and the requests follow.
use Rattle.std.proofs.Common.{◌-◌, sym, subst, length}
use Rattle.trace_history.specs.Kept.{BookKept}
use Rattle.net_core.specs.Scheduling.{numbers, InTurn, Opens, ReadyOpensNone}
use Rattle.site_runner.specs.inside.RoundParts.{AreOne, HaveRun}
use Rattle.site_runner.proofs.in_rounds.end_round.Goals as goal

pub open_all-requires-clause-one : goal.open_all-requires-clause-one
open_all-requires-clause-one c = subst (λ (b : BookKept). AreOne b c.args.net.now)
    (sym c.in_ok-commit_all.ensures) c.requires.one

pub returns-clause-ends : goal.returns-clause-ends
returns-clause-ends c =
    let net = c.args.net.now in
    let from = λ (b : BookKept).
    HaveRun (InTurn (Opens net.code) (ReadyOpensNone net.code) (c.args.budget - length b.journal)
    (numbers net.net) net.net) net b c.open_all.new.net c.open_all.new.book in
    record {
      mid = c.open_all.new.net;
      mid_book = c.open_all.new.book;
      opens = subst from c.in_ok-commit_all.ensures c.in_ok-open_all.ensures.opens;
      meets = c.in_ok-meet_all.ensures.meets;
    }
