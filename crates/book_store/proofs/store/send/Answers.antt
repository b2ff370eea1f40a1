-- The candidates of the location are candidates at the new site too.
use Rattle.std.proofs.lemmas.Result.{on_ok_weaker}
use Rattle.book_store.specs.declared.store.Store.{Store}
use Rattle.book_store.proofs.SentLaws.{more_rules, more_requests, is_sent}
use Rattle.book_store.proofs.store.send.Goals as goal

pub returns-in_err-send_candidates-clause-stored :
    goal.returns-in_err-send_candidates-clause-stored
returns-in_err-send_candidates-clause-stored c =
    more_rules c.args.solution.now c.call_fallen.new.store c.send_candidates.new.candidates
    c.send_candidates.ensures.kept c.call_fallen.ensures.stored

pub returns : goal.returns
returns c =
    let n = c.args.solution.now in
    let s = c.call_fallen.new.store in
    let first = c.send_candidates.new.candidates in
    let second = c.send_candidates-2.new.candidates in
    let middle : Store = record s { waiting = record s.waiting { ready = first } } in
    let stored =
    more_rules n s first c.send_candidates.ensures.kept c.call_fallen.ensures.stored in
    record {
      stored = more_requests n middle second c.send_candidates-2.ensures.kept stored;
      older = c.call_fallen.ensures.older;
      sent = on_ok_weaker c.send_candidates-2.result
          (λ at. is_sent n s c.args.at c.args.to first second c.in_ok-call_fallen.ensures.called
          c.in_ok-send_candidates.ensures.sent at c.send_candidates-2.ensures.kept)
          c.send_candidates-2.ensures.sent;
    }
