-- Reading a format from left to right. An error is how many bytes are left where the field that is
-- wrong begins.
use Rattle.std.specs.Prelude.{ℕ, List, [], ◌∷◌, length, take, drop, Result, Ok, Err, nat_lt}
use Rattle.std.specs.Prelude.{if◌then◌else◌}
use Rattle.std.specs.Int.{w32, w64, from_be_bytes}
use Rattle.wire_packet.specs.Format.{Size, one, four, eight, Format, whole, field}

infixl 10 ◌>>=◌
abbrev pub ◌>>=◌ : {A B : Type 0} → Result A ℕ → (A → Result B ℕ) → Result B ℕ
(Ok x) >>= f = f x
(Err e) >>= f = Err e

-- the field at the front, and what follows it
abbrev pub number_at : Size → List ℕ → Result (ℕ × List ℕ) ℕ
number_at one [] = Err 0
number_at one (b ∷ rest) = Ok (b, rest)
number_at four bytes =
    if nat_lt (length bytes) 4
    then Err (length bytes)
    else Ok (from_be_bytes w32 (take 4 bytes), drop 4 bytes)
number_at eight bytes =
    if nat_lt (length bytes) 8
    then Err (length bytes)
    else Ok (from_be_bytes w64 (take 8 bytes), drop 8 bytes)

-- no byte follows
abbrev pub ended : {A : Type 0} → A → List ℕ → Result A ℕ
ended x [] = Ok x
ended x (b ∷ rest) = Err (length (b ∷ rest))

abbrev pub read : {A : Type 0} → Format A → List ℕ → Result A ℕ
read (whole x) bytes = ended x bytes
read (field s allowed next) bytes =
    number_at s bytes >>= λ x. if allowed x.0 then read (next x.0) x.1 else Err (length bytes)
