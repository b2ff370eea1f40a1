-- What calls do to the bytes that a source has left and a sink holds, where those are told.
use Rattle.std.specs.Prelude.{◌≡◌, ℕ, ◌≤◌, ◌<◌, List, [], ◌++◌, length}
use Rattle.std.specs.Prelude.{Option, None, Some, Result, IfOk, ◌↔◌}
use Rattle.std.specs.Io.KnownBytes.{Appends, Consumes}

-- where the bytes left are told, a read gives 0 bytes exactly where none are left
abbrev pub EndsAsTold : {E : Type 0} → Option (List ℕ) → Result ℕ E → Type 0
EndsAsTold None result = Unit {0}
EndsAsTold (Some bytes) result = IfOk result (λ n. (n ≡ 0) ↔ (bytes ≡ []))

-- so many bytes were taken from those left
abbrev pub TakesCount : Option (List ℕ) → Option (List ℕ) → ℕ → Type 0
TakesCount old new n = (bytes : List ℕ) × Consumes old new bytes × (length bytes ≡ n)

-- at most so many bytes were taken from those left
abbrev pub TakesAtMost : Option (List ℕ) → Option (List ℕ) → ℕ → Type 0
TakesAtMost old new n = (bytes : List ℕ) × Consumes old new bytes × (length bytes ≤ n)

-- of a piece with so many bytes at least one is accepted, and no more than there are
abbrev pub AcceptsSome : {E : Type 0} → Result ℕ E → ℕ → Type 0
AcceptsSome result most = IfOk result (λ n. (0 < n) × (n ≤ most))

-- the bytes held gained a prefix of the text
abbrev pub GainsPrefix : Option (List ℕ) → Option (List ℕ) → List ℕ → Type 0
GainsPrefix old new text = (front rest : List ℕ) × (text ≡ front ++ rest) × Appends old new front
