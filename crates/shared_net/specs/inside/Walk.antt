-- What the walk over the receipts keeps, with one slot a place of the journal, which names the
-- worker whose receipt filled it.
use Rattle.std.specs.Prelude.{◌≡◌, ◌≢◌, ℕ, ◌≤◌, List, [], ◌∷◌, Bool, false, cond, ◌||◌, ◌==◌}
use Rattle.std.specs.Prelude.{length, Option, Some, None, slice_get}
use Rattle.chem_model.specs.Each.{Each}
use Rattle.chem_model.specs.declared.event.Event.{Event}
use Rattle.shared_net.specs.declared.receipt.Receipt.{Receipt}
use Rattle.shared_net.specs.declared.differs.Differs.{Differs}
use Rattle.shared_net.specs.declared.differs.Differs.TheVariants as cause
use Rattle.shared_net.specs.Agrees.{Stands}
use Rattle.shared_net.specs.Causes.{OneOf}

abbrev pub joined : Option (Option ℕ) → Option ℕ
joined None = None
joined (Some slot) = slot

-- the worker whose receipt filled the slot of a place
abbrev pub slot_at : List (Option ℕ) → ℕ → Option ℕ
slot_at slots k = joined (slice_get slots k)

-- the receipt stands, and its slot is free
abbrev pub IsFresh : List Event → List (Option ℕ) → Receipt → Type 0
IsFresh journal slots r = Stands journal r × (slot_at slots r.place ≡ None)

-- why a receipt of that worker isn't fresh
abbrev pub IsStale : List Event → List (Option ℕ) → ℕ → Receipt → Differs → Type 0
IsStale journal slots number r (cause.Event place receipt kept) =
    (r ≡ record { place = place; event = receipt })
    × (slice_get journal place ≡ Some kept) × (kept ≢ receipt)
IsStale journal slots number r (cause.Twice place first second) =
    (r.place ≡ place) × (slot_at slots place ≡ Some first) × (second ≡ number)
IsStale journal slots number r (cause.Past place end) =
    (r.place ≡ place) × (end ≡ length journal) × (end ≤ place)
IsStale journal slots number r (cause.Program started kept) = ⊥

-- a receipt of that worker is fresh, or that is why it isn't
abbrev pub Looks : List Event → List (Option ℕ) → ℕ → Receipt → Option Differs → Type 0
Looks journal slots number r None = IsFresh journal slots r
Looks journal slots number r (Some differs) = IsStale journal slots number r differs

-- all receipts of that worker are fresh, or that is why one of them isn't
abbrev pub LooksAll : List Event → List (Option ℕ) → ℕ → List Receipt → Option Differs → Type 0
LooksAll journal slots number rs None = Each (IsFresh journal slots) rs
LooksAll journal slots number rs (Some differs) =
    OneOf (λ r. IsStale journal slots number r differs) rs

-- one of the receipts is for this place
abbrev pub has_place : ℕ → List Receipt → Bool
has_place k [] = false
has_place k (r ∷ rs) = (r.place == k) || has_place k rs

-- the slots of these receipts' places are that worker's, and the others are as before
abbrev pub Marks : List (Option ℕ) → ℕ → List Receipt → List (Option ℕ) → Type 0
Marks old number rs new =
    (k : ℕ) → slot_at new k ≡ cond (has_place k rs) (Some number) (slot_at old k)
