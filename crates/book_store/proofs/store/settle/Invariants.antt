use Rattle.book_store.specs.Stored.{IsStored, Moves}
use Rattle.book_store.proofs.store.settle.Given as goal

abbrev pub decreases-loop-left : goal.decreases-loop-left
decreases-loop-left l = l.left

abbrev pub invariant-loop-left : goal.invariant-loop-left
invariant-loop-left l =
    IsStored l.solution l.store × Moves l.fn.solution l.fn.store l.solution l.store
