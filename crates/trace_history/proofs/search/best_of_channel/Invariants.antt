use Rattle.std.proofs.Common.{◌+◌, ◌⊎◌}
use Rattle.std.specs.List.{filter}
use Rattle.std.specs.Option.{option_copied}
use Rattle.chem_model.specs.Each.{IsIn}
use Rattle.book_store.specs.Keys.{Key}
use Rattle.book_store.specs.Older.{whole}
use Rattle.trace_history.specs.inside.Passed.{Betters}
use Rattle.trace_history.proofs.Looked.{IsKeyPassed}
use Rattle.book_store.proofs.Queued.{is_high}
use Rattle.trace_history.proofs.search.best_of_channel.Given as goal

abbrev pub invariant-loop-key : goal.invariant-loop-key
invariant-loop-key l =
    Betters (whole l.sight.older.now.table l.sight.numbered.now) l.sight.from
    (option_copied l.fn.found) (option_copied l.best)
    × ((k : Key) → IsIn k (filter (is_high (l.channel + 1) l.channel) l.waiting.filed.keys)
    → IsKeyPassed (whole l.sight.older.now.table l.sight.numbered.now) l.sight.from l.waiting
    (option_copied l.best) k
    ⊎ IsIn k l.key-iterator)
