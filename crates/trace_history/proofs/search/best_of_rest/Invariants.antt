use Rattle.std.specs.Prelude.{None}
use Rattle.std.specs.Option.{option_copied}
use Rattle.book_store.specs.Older.{whole}
use Rattle.trace_history.specs.inside.Passed.{Betters, ArePassed}
use Rattle.trace_history.proofs.search.best_of_rest.Given as goal

abbrev pub invariant-loop-place : goal.invariant-loop-place
invariant-loop-place l =
    Betters (whole l.sight.older.now.table l.sight.numbered.now) l.sight.from None
    (option_copied l.best)
    × ArePassed (whole l.sight.older.now.table l.sight.numbered.now) l.sight.from l.noted l.place
    (option_copied l.best)
