use Rattle.std.proofs.Common.{◌≡◌, ◌++◌}
use Rattle.book_store.proofs.keys.all_keys.Given as goal

abbrev pub invariant-loop-key : goal.invariant-loop-key
invariant-loop-key l = l.list.items ++ l.key-iterator ≡ l.keys.keys
