use Rattle.book_store.proofs.KeyRange.{Copies}
use Rattle.book_store.proofs.keys.keys_with.Given as goal

abbrev pub invariant-loop-key : goal.invariant-loop-key
invariant-loop-key l = Copies l.number l.keys.keys l.list.items l.key-iterator
