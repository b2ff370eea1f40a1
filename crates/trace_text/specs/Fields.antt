-- Texts of fields: which fields stand one behind the other, what bytes spell by them, and where
-- they are wrong first.
use Rattle.std.specs.Prelude.{◌≡◌, ◌≢◌, ◌⊎◌, ℕ, zero, suc, ◌+◌, ◌<◌, ◌≤◌, ◌^◌, nat_le, decimal}
use Rattle.std.specs.Prelude.{List, [], ◌∷◌, ◌++◌, length, Bool, false, ◌&&◌}

-- A field is one of these words, a number from low to high, or so many bytes.
pub data Field : Type 0 where
  word : List (List ℕ) → Field
  number : (low high : ℕ) → Field
  counted : ℕ → Field

-- what a field says: which of the words it is, from 0; the number; the bytes
abbrev pub ValueOf : Field → Type 0
ValueOf (word words) = ℕ
ValueOf (number low high) = ℕ
ValueOf (counted count) = List ℕ

abbrev pub is_digit : ℕ → Bool
is_digit b = nat_le 48 b && nat_le b 57

-- no digit is at the front
abbrev pub NoDigit : List ℕ → Type 0
NoDigit [] = Unit {0}
NoDigit (b ∷ bytes) = is_digit b ≡ false

-- the first of these words with which the bytes begin is this one, and the rest is behind it
abbrev pub IsWord : List (List ℕ) → ℕ → List ℕ → List ℕ → Type 0
IsWord [] i bytes rest = ⊥
IsWord (w ∷ words) zero bytes rest = bytes ≡ w ++ rest
IsWord (w ∷ words) (suc i) bytes rest =
    ((other : List ℕ) → bytes ≢ w ++ other) × IsWord words i bytes rest

-- a number of 64 bits in decimal, without leading zeros, and behind it a rest that begins with no
-- digit: so it is the longest run of digits
pub record IsNumber (low high n : ℕ) (bytes rest : List ℕ) : Type 0 where
  pub large : low ≤ n
  pub small : n ≤ high
  pub bits : n < 2 ^ 64
  pub is : bytes ≡ decimal n ++ rest
  pub longest : NoDigit rest

-- at the front of the bytes the field stands with this value, and the rest behind it
abbrev pub IsField : (f : Field) → ValueOf f → List ℕ → List ℕ → Type 0
IsField (word words) i bytes rest = IsWord words i bytes rest
IsField (number low high) n bytes rest = IsNumber low high n bytes rest
IsField (counted count) text bytes rest = (length text ≡ count) × (bytes ≡ text ++ rest)

-- the field doesn't stand at the front of the bytes: they differ from it, or end within it
abbrev pub IsNoField : Field → List ℕ → Type 0
IsNoField f bytes = (value : ValueOf f) (rest : List ℕ) → IsField f value bytes rest → ⊥

-- A format is whole, with what was spelled; or it begins with a field, and its value says which
-- format is behind it.
pub data Format (A : Type 0) : Type 0 where
  whole : A → Format A
  field : (f : Field) → (ValueOf f → Format A) → Format A

-- The bytes spell x: they are its fields, and no byte more.
abbrev pub SpellsBy : {A : Type 0} → Format A → A → List ℕ → Type 0
SpellsBy (whole y) x bytes = (y ≡ x) × (bytes ≡ [])
SpellsBy (field f next) x bytes =
    (value : ValueOf f) × (rest : List ℕ)
    × IsField f value bytes rest × SpellsBy (next value) x rest

-- The first field that is wrong begins at this place: all fields before it stand where they should.
-- Behind the last field the first byte is wrong.
abbrev pub WrongBy : {A : Type 0} → Format A → List ℕ → ℕ → Type 0
WrongBy (whole y) bytes place = (place ≡ 0) × (0 < length bytes)
WrongBy (field f next) bytes place =
    ((place ≡ 0) × IsNoField f bytes)
    ⊎ ((value : ValueOf f) × (rest : List ℕ) × IsField f value bytes rest
    × (later : ℕ) × (place + length rest ≡ later + length bytes) × WrongBy (next value) rest later)
