-- The better one of the first of the newest requests and of the first candidate.
use Rattle.std.proofs.Common.{Some, None, sym, ◌∙◌}
use Rattle.std.specs.Option.{option_copied}
use Rattle.trace_history.specs.inside.Search.{request_before}
use Rattle.trace_history.proofs.Founds.{requests_order}
use Rattle.trace_history.proofs.Picked.{pick_one, pick_other, pick_only, first_request_is}
use Rattle.trace_history.proofs.search.first_request.Goals as goal

pub returns-then-is_earlier_request : goal.returns-then-is_earlier_request
returns-then-is_earlier_request c =
    let m = c.args.numbered.now in
    let s = c.args.store.now in
    let newest = option_copied c.first_request_of-newest.result in
    let a = c.in-Some.atom.now in
    first_request_is m c.args.from s.older.table c.as_slice.result.now s.asking newest (Some a)
    (Some a) c.as_slice.ensures.members c.requires.stored.asked c.first_request_of-newest.ensures
    c.in-Some.ensures
    (pick_other (request_before m c.args.from) (requests_order m c.args.from) newest a
    (sym c.is_earlier_request.ensures ∙ c.if-is_earlier_request.true))

pub returns-else-is_earlier_request : goal.returns-else-is_earlier_request
returns-else-is_earlier_request c =
    let m = c.args.numbered.now in
    let s = c.args.store.now in
    let newest = option_copied c.first_request_of-newest.result in
    let a = c.in-Some.atom.now in
    first_request_is m c.args.from s.older.table c.as_slice.result.now s.asking newest (Some a)
    newest c.as_slice.ensures.members c.requires.stored.asked c.first_request_of-newest.ensures
    c.in-Some.ensures
    (pick_one (request_before m c.args.from) (requests_order m c.args.from) newest a
    (sym c.is_earlier_request.ensures ∙ c.if-is_earlier_request.false))

pub returns-in-None : goal.returns-in-None
returns-in-None c =
    let m = c.args.numbered.now in
    let s = c.args.store.now in
    let newest = option_copied c.first_request_of-newest.result in
    first_request_is m c.args.from s.older.table c.as_slice.result.now s.asking newest None
    newest c.as_slice.ensures.members c.requires.stored.asked c.first_request_of-newest.ensures
    c.in-None.ensures
    (pick_only (request_before m c.args.from) (requests_order m c.args.from) newest)
