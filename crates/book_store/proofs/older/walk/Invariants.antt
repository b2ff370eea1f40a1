use Rattle.std.proofs.Common.{◌≡◌}
use Rattle.book_store.specs.Walk.{walk}
use Rattle.book_store.specs.Older.{find_at}
use Rattle.book_store.proofs.older.walk.Given as goal

abbrev pub invariant-loop-key : goal.invariant-loop-key
invariant-loop-key l = walk (find_at l.at l.pat l.older.table) l.key-iterator
    ≡ walk (find_at l.at l.pat l.older.table) l.fn.keys
