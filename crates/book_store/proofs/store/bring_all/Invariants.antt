use Rattle.std.proofs.Common.{◌≡◌, None, take}
use Rattle.chem_model.specs.Apply.{atom_at}
use Rattle.chem_model.specs.Each.{Each}
use Rattle.book_store.specs.Stored.{IsStored, Moves}
use Rattle.book_store.proofs.store.bring_all.Given as goal

abbrev pub invariant-loop-id : goal.invariant-loop-id
invariant-loop-id l =
    IsStored l.solution l.store × Moves l.fn.solution l.fn.store l.solution l.store
    × Each (λ i. atom_at l.store.older.table i ≡ None) (take l.id-index l.id-items)
