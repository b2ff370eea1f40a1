-- When the receipts of all workers agree with a journal.
use Rattle.std.specs.Prelude.{◌≡◌, ℕ, ◌+◌, ◌≤◌, List, [], ◌∷◌, ◌++◌, cond, ◌==◌, Some, slice_get}
use Rattle.chem_model.specs.Each.{Each}
use Rattle.chem_model.specs.declared.event.Event.{Event}
use Rattle.shared_net.specs.declared.receipt.Receipt.{Receipt}
use Rattle.shared_net.specs.declared.report.Worked.{Worked}
use Rattle.shared_net.specs.Passes.{PassKept}

-- what a pass holds, as a row of the report
abbrev pub row_of : PassKept → Worked
row_of p = record { number = p.number; idle = p.idle; full = p.full; receipts = p.receipts }

-- the receipts of all rows
abbrev pub all_receipts : List Worked → List Receipt
all_receipts [] = []
all_receipts (w ∷ ws) = w.receipts ++ all_receipts ws

-- how many receipts are for this place
abbrev pub times_at : ℕ → List Receipt → ℕ
times_at k [] = 0
times_at k (r ∷ rs) = cond (r.place == k) 1 0 + times_at k rs

-- the journal has the receipt's event at its place
abbrev pub Stands : List Event → Receipt → Type 0
Stands journal r = slice_get journal r.place ≡ Some r.event

-- the journal has each receipt's event at its place, and no place occurs twice
pub record Agrees (journal : List Event) (receipts : List Receipt) : Type 0 where
  pub stands : Each (Stands journal) receipts
  pub once : (k : ℕ) → times_at k receipts ≤ 1
