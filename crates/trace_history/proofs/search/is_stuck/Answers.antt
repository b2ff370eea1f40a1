-- Where a rule is ready or a request can be met, an event is possible.
use Rattle.book_store.specs.Older.{whole}
use Rattle.trace_history.proofs.Founds.{none_possible}
use Rattle.trace_history.proofs.Answered.{rule_not_stuck, request_not_stuck, is_stuck_then}
use Rattle.trace_history.proofs.search.is_stuck.Goals as goal

pub returns-in-Some : goal.returns-in-Some
returns-in-Some c = rule_not_stuck (whole c.args.store.now.older.table c.args.numbered.now)
    c.requires.all 0 c.in-Some.field-0.now c.in-Some.ensures

pub returns-in-Some-first_request : goal.returns-in-Some-first_request
returns-in-Some-first_request c =
    request_not_stuck (whole c.args.store.now.older.table c.args.numbered.now) c.requires.all 0
    c.in-Some-first_request.field-0.now c.in-Some-first_request.ensures

pub returns-in-None-first_request : goal.returns-in-None-first_request
returns-in-None-first_request c =
    is_stuck_then (whole c.args.store.now.older.table c.args.numbered.now)
    (none_possible (whole c.args.store.now.older.table c.args.numbered.now) c.requires.all 0
    c.in-None.ensures c.in-None-first_request.ensures)
