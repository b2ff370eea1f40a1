use Rattle.std.proofs.Common.{◌≡◌}
use Rattle.book_store.specs.Walk.{walk}
use Rattle.trace_history.specs.inside.Chosen.{request_for}
use Rattle.trace_history.proofs.search.walk_requests.Given as goal

abbrev pub invariant-loop-key : goal.invariant-loop-key
invariant-loop-key l = walk (request_for l.numbered l.table) l.key-iterator
    ≡ walk (request_for l.numbered l.table) l.fn.keys
