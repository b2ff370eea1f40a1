-- Why the receipts of all workers don't agree with a journal.
use Rattle.std.specs.Prelude.{◌≡◌, ◌≢◌, ℕ, ◌≤◌, ◌⊎◌, List, [], ◌∷◌, length}
use Rattle.std.specs.Prelude.{Option, Some, None, slice_get}
use Rattle.chem_model.specs.Each.{Each}
use Rattle.chem_model.specs.ProgramFacts.{ProgramTerms}
use Rattle.chem_model.specs.declared.event.Event.{Event}
use Rattle.shared_net.specs.declared.receipt.Receipt.{Receipt}
use Rattle.shared_net.specs.declared.report.Worked.{Worked}
use Rattle.shared_net.specs.declared.differs.Differs.{Differs}
use Rattle.shared_net.specs.declared.differs.Differs.TheVariants as cause
use Rattle.shared_net.specs.Agrees.{all_receipts, Agrees}

-- one of the members of a list, by recursion
abbrev pub OneOf : {X : Type 0} → (X → Type 0) → List X → Type 0
OneOf P [] = ⊥
OneOf P (x ∷ xs) = P x ⊎ OneOf P xs

-- the row has this receipt
abbrev pub HasReceipt : Receipt → Worked → Type 0
HasReceipt receipt row = OneOf (λ r. r ≡ receipt) row.receipts

-- the row has a receipt for this place
abbrev pub HasPlace : ℕ → Worked → Type 0
HasPlace place row = OneOf (λ r. r.place ≡ place) row.receipts

-- the row of the worker with this number has a receipt for this place
abbrev pub IsHolder : ℕ → ℕ → List Worked → Type 0
IsHolder number place rows = OneOf (λ w. (w.number ≡ number) × HasPlace place w) rows

-- no two rows have the same number
abbrev pub DifferInNumber : List Worked → Type 0
DifferInNumber [] = Unit {0}
DifferInNumber (w ∷ ws) = Each (λ v. v.number ≢ w.number) ws × DifferInNumber ws

-- the cause is true of the rows
abbrev pub IsCause : List Worked → Differs → Type 0
IsCause rows (cause.Event place receipt kept) =
    OneOf (HasReceipt (record { place = place; event = receipt })) rows × (kept ≢ receipt)
IsCause rows (cause.Twice place first second) =
    (first ≢ second) × IsHolder first place rows × IsHolder second place rows
IsCause rows (cause.Past place end) = (end ≤ place) × OneOf (HasPlace place) rows
IsCause rows (cause.Program started kept) = kept.program ≢ started

-- where the cause names a program that was started, it is this one
abbrev pub IsOfStarted : ProgramTerms → Differs → Type 0
IsOfStarted program (cause.Event place receipt kept) = Unit {0}
IsOfStarted program (cause.Twice place first second) = Unit {0}
IsOfStarted program (cause.Past place end) = Unit {0}
IsOfStarted program (cause.Program started kept) = started ≡ program

-- the cause is true of the journal; that a book is of another program no journal shows
abbrev pub IsShownBy : List Event → Differs → Type 0
IsShownBy journal (cause.Event place receipt kept) = slice_get journal place ≡ Some kept
IsShownBy journal (cause.Twice place first second) = Unit {0}
IsShownBy journal (cause.Past place end) = end ≡ length journal
IsShownBy journal (cause.Program started kept) = ⊥

-- the receipts agree with the journal, or the cause is true of both
abbrev pub Compares : List Event → List Worked → Option Differs → Type 0
Compares journal rows None = Agrees journal (all_receipts rows)
Compares journal rows (Some differs) = IsCause rows differs × IsShownBy journal differs
