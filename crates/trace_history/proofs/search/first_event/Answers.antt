-- The reaction or the request that comes first, or none.
use Rattle.std.proofs.Common.{◌<◌, ◌≤◌, ℕ, Some, None, subst}
use Rattle.trace_history.specs.inside.Search.{turn}
use Rattle.book_store.specs.Older.{whole}
use Rattle.trace_history.proofs.Founds.{none_possible}
use Rattle.trace_history.proofs.Answered.{reaction_found, meeting_found, none_is, ready_on_err}
use Rattle.trace_history.proofs.Answered.{turn_rule, turn_atom}
use Rattle.trace_history.proofs.search.first_event.Goals as goal

pub returns-then-turn-clause-found : goal.returns-then-turn-clause-found
returns-then-turn-clause-found c =
    let n = whole c.args.store.now.older.table c.args.numbered.now in
    let request = c.in-Some-first_request.request.now in
    let rule = c.in-Some.rule.now in
    let low : turn n c.args.from request.loc < turn n c.args.from rule.loc =
    subst (λ (k : ℕ). k < turn n c.args.from rule.loc) c.turn.ensures
    (subst (λ (k : ℕ). c.turn.result < k) c.turn-in-Some-first_request.ensures c.if-turn.true) in
    meeting_found n c.requires.all c.args.from request (Some rule)
    c.in-Some.ensures c.in-Some-first_request.ensures
    (turn_rule n c.args.from (turn n c.args.from request.loc) rule low)
    c.meeting.result c.meeting.ensures

pub returns-in_ok-found-in-Some-first_request-clause-found :
    goal.returns-in_ok-found-in-Some-first_request-clause-found
returns-in_ok-found-in-Some-first_request-clause-found c =
    let n = whole c.args.store.now.older.table c.args.numbered.now in
    let request = c.in-Some-first_request.request.now in
    let rule = c.in-Some.rule.now in
    let low : turn n c.args.from rule.loc ≤ turn n c.args.from request.loc =
    subst (λ (k : ℕ). k ≤ turn n c.args.from request.loc) c.turn-in-Some-first_request.ensures
    (subst (λ (k : ℕ). c.turn-in-Some-first_request.result ≤ k) c.turn.ensures c.if-turn.false) in
    reaction_found n c.requires.all c.args.from rule (Some request)
    c.in-Some.ensures c.in-Some-first_request.ensures
    (turn_atom n c.args.from (turn n c.args.from rule.loc) request low)
    c.in_ok-found-in-Some-first_request.found c.in_ok-found-in-Some-first_request.ensures

pub returns-in_ok-found-in-None-first_request-clause-found :
    goal.returns-in_ok-found-in-None-first_request-clause-found
returns-in_ok-found-in-None-first_request-clause-found c =
    let n = whole c.args.store.now.older.table c.args.numbered.now in
    let rule = c.in-Some.rule.now in
    reaction_found n c.requires.all c.args.from rule None
    c.in-Some.ensures c.in-None-first_request.ensures
    (λ a e. none_is a (turn n c.args.from rule.loc ≤ turn n c.args.from a.loc) e)
    c.in_ok-found-in-None-first_request.found c.in_ok-found-in-None-first_request.ensures

pub returns-in-Some-first_request-2-clause-found : goal.returns-in-Some-first_request-2-clause-found
returns-in-Some-first_request-2-clause-found c =
    let n = whole c.args.store.now.older.table c.args.numbered.now in
    let request = c.in-Some-first_request-2.request.now in
    meeting_found n c.requires.all c.args.from request None
    c.in-None.ensures c.in-Some-first_request-2.ensures
    (λ r e. none_is r (turn n c.args.from request.loc < turn n c.args.from r.loc) e)
    c.meeting-in-Some-first_request-2.result c.meeting-in-Some-first_request-2.ensures

pub returns-in-None-first_request-2-clause-found : goal.returns-in-None-first_request-2-clause-found
returns-in-None-first_request-2-clause-found c =
    none_possible (whole c.args.store.now.older.table c.args.numbered.now)
    c.requires.all c.args.from c.in-None.ensures c.in-None-first_request-2.ensures

pub returns-in_err-found-in-Some-first_request-clause-memory :
    goal.returns-in_err-found-in-Some-first_request-clause-memory
returns-in_err-found-in-Some-first_request-clause-memory c =
    ready_on_err c.from_residual.result (whole c.args.store.now.older.table c.args.numbered.now)
    c.requires.all c.args.from c.in-Some.rule.now c.in-Some.ensures

pub returns-in_err-found-in-None-first_request-clause-memory :
    goal.returns-in_err-found-in-None-first_request-clause-memory
returns-in_err-found-in-None-first_request-clause-memory c =
    ready_on_err c.from_residual-in_err-found-in-None-first_request.result
    (whole c.args.store.now.older.table c.args.numbered.now)
    c.requires.all c.args.from c.in-Some.rule.now c.in-Some.ensures
