use Rattle.std.specs.Prelude.{IfSome}
use Rattle.book_store.specs.Watched.{IsBare}
use Rattle.book_store.proofs.waiting.bare_channel.Given as goal

abbrev pub invariant-loop-pat : goal.invariant-loop-pat
invariant-loop-pat l = IfSome l.found (IsBare l.but l.older.keys.keys l.pat-items)
