-- Formats: which fields stand one behind the other, what bytes spell by a format, and where they
-- are wrong first.
use Rattle.std.specs.Prelude.{◌≡◌, ℕ, ◌+◌, ◌<◌, ◌^◌, List, [], ◌∷◌, ◌++◌, length, Bool, true, false}
use Rattle.std.specs.Prelude.{◌⊎◌}
use Rattle.std.specs.Int.{w32, w64, to_be_bytes}

-- how many bytes a field has
pub data Size : Type 0 where
  one : Size
  four : Size
  eight : Size

abbrev pub count : Size → ℕ
count one = 1
count four = 4
count eight = 8

-- the values of a field are below this
abbrev pub limit : Size → ℕ
limit one = 2 ^ 8
limit four = 2 ^ 32
limit eight = 2 ^ 64

-- a value as the bytes of a field, big-endian
abbrev pub digits : Size → ℕ → List ℕ
digits one n = n ∷ []
digits four n = to_be_bytes w32 n
digits eight n = to_be_bytes w64 n

-- A format is whole, with what was spelled; or it begins with a field: its size, which values are
-- allowed in it, and the format behind each value.
pub data Format (A : Type 0) : Type 0 where
  whole : A → Format A
  field : Size → (ℕ → Bool) → (ℕ → Format A) → Format A

-- The bytes spell x: they are its fields, each with a value that is allowed, and no byte more.
abbrev pub Spells : {A : Type 0} → Format A → A → List ℕ → Type 0
Spells (whole y) x bytes = (y ≡ x) × (bytes ≡ [])
Spells (field s allowed next) x bytes =
    (n : ℕ) × (rest : List ℕ) × (n < limit s) × (bytes ≡ digits s n ++ rest)
    × (allowed n ≡ true) × Spells (next n) x rest

-- The first field that is wrong begins at this place: the bytes end within it, or its value isn't
-- allowed. All fields before it are right. Behind the last field the first byte is wrong.
abbrev pub WrongAt : {A : Type 0} → Format A → List ℕ → ℕ → Type 0
WrongAt (whole y) bytes place = (place ≡ 0) × (0 < length bytes)
WrongAt (field s allowed next) bytes place =
    ((place ≡ 0) × (length bytes < count s))
    ⊎ ((n : ℕ) × (rest : List ℕ) × (n < limit s) × (bytes ≡ digits s n ++ rest)
    × (((place ≡ 0) × (allowed n ≡ false))
    ⊎ ((allowed n ≡ true) × (later : ℕ) × (place ≡ count s + later) × WrongAt (next n) rest later)))

-- Bytes spell one value, or they have one field that is wrong first, and never both.
pub record HasOneOutcome {A : Type 0} (f : Format A) (bytes : List ℕ) : Type 0 where
  pub some : ((x : A) × Spells f x bytes) ⊎ ((place : ℕ) × WrongAt f bytes place)
  pub one_value : (x y : A) → Spells f x bytes → Spells f y bytes → x ≡ y
  pub one_place : (m n : ℕ) → WrongAt f bytes m → WrongAt f bytes n → m ≡ n
  pub not_both : (x : A) (place : ℕ) → Spells f x bytes → WrongAt f bytes place → ⊥
