-- The numbers of binders count up, and their spellings are the program's.
use Rattle.std.proofs.Common.{◌≡◌, ℕ, ◌+◌, List, [], ◌∷◌, ◌++◌, length}
use Rattle.scope_check.specs.Numbers.{Binder}
use Rattle.scope_check.specs.Stands.{texts}

-- the numbers of these binders count up from here
abbrev pub Consecutive : (Binder → ℕ) → ℕ → List Binder → Type 0
Consecutive number next [] = Unit {0}
Consecutive number next (b ∷ bs) = (number b ≡ next) × Consecutive number (next + 1) bs

-- after these spellings come the binders that are left, by number and by spelling
abbrev pub Counts : (Binder → ℕ) → (whole spell : List (List ℕ)) → List Binder → Type 0
Counts number whole spell bs = Consecutive number (length spell) bs × (spell ++ texts bs ≡ whole)
