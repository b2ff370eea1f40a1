-- Reading a format from left to right. An error is how many bytes are left where the field that is
-- wrong begins.
use Rattle.std.specs.Prelude.{◌≡◌, ℕ, suc, ◌-◌, ◌*◌, ◌+◌, ◌^◌, ◌==◌, ◌&&◌, ◌||◌, nat_le, nat_lt}
use Rattle.std.specs.Prelude.{List, [], ◌∷◌, length, take, drop, fold, Bool, false, not, cond}
use Rattle.std.specs.Prelude.{Option, Some, None, Result, Ok, Err}
use Rattle.std.specs.List.{prefix_len}
use Rattle.trace_text.specs.declared.fault.Fault.{Fault}
use Rattle.trace_text.specs.declared.fault.Fault.TheVariants as fault
use Rattle.trace_text.specs.Fields.{Field, word, number, counted, ValueOf, is_digit, Format, whole}
use Rattle.trace_text.specs.Fields.{field}

infixl 10 ◌>>=◌
abbrev pub ◌>>=◌ : {A B : Type 0} → Result A ℕ → (A → Result B ℕ) → Result B ℕ
(Ok x) >>= f = f x
(Err e) >>= f = Err e

-- what follows a word, where the bytes begin with it
abbrev pub behind : List ℕ → List ℕ → Option (List ℕ)
behind [] bytes = Some bytes
behind (c ∷ w) [] = None
behind (c ∷ w) (b ∷ bytes) = cond (b == c) (behind w bytes) None

-- this word where it is there, or the one that is found among the later ones
abbrev pub first_word : Option (List ℕ) → Result (ℕ × List ℕ) ℕ → Result (ℕ × List ℕ) ℕ
first_word (Some rest) later = Ok (0, rest)
first_word None later = later >>= λ x. Ok (suc x.0, x.1)

abbrev pub word_at : List (List ℕ) → List ℕ → Result (ℕ × List ℕ) ℕ
word_at [] bytes = Err (length bytes)
word_at (w ∷ words) bytes = first_word (behind w bytes) (word_at words bytes)

-- the value of decimal digits
abbrev pub value_of : List ℕ → ℕ
value_of digits = fold (λ v d. v * 10 + (d - 48)) 0 digits

-- a value of 64 bits from low to high
abbrev pub is_between : ℕ → ℕ → ℕ → Bool
is_between low high n = nat_le low n && (nat_le n high && nat_lt n (2 ^ 64))

-- digits are a number from low to high: there is one, and no leading zero
abbrev pub is_numeral : ℕ → ℕ → List ℕ → Bool
is_numeral low high [] = false
is_numeral low high (d ∷ digits) =
    (not (d == 48) || length digits == 0) && is_between low high (value_of (d ∷ digits))

abbrev pub number_at : ℕ → ℕ → ℕ → List ℕ → Result (ℕ × List ℕ) ℕ
number_at low high n bytes =
    cond (is_numeral low high (take n bytes))
    (Ok (value_of (take n bytes), drop n bytes))
    (Err (length bytes))

-- the field at the front, and what follows it
abbrev pub front : (f : Field) → List ℕ → Result (ValueOf f × List ℕ) ℕ
front (word words) bytes = word_at words bytes
front (number low high) bytes = number_at low high (prefix_len is_digit bytes) bytes
front (counted n) bytes =
    cond (nat_le n (length bytes)) (Ok (take n bytes, drop n bytes)) (Err (length bytes))

-- no byte follows
abbrev pub ended : {A : Type 0} → A → List ℕ → Result A ℕ
ended x [] = Ok x
ended x (b ∷ rest) = Err (length (b ∷ rest))

abbrev pub read : {A : Type 0} → Format A → List ℕ → Result A ℕ
read (whole x) bytes = ended x bytes
read (field f next) bytes = front f bytes >>= λ x. read (next x.0) x.1

abbrev pub FailsAs : {Y : Type 0} → Fault → Result Y ℕ → Type 0
FailsAs fault.Memory r = Unit {0}
FailsAs (fault.Wrong left) r = r ≡ Err left

-- this is what reading gives
abbrev pub Gives : {X Y : Type 0} → (X → Y) → Result X Fault → Result Y ℕ → Type 0
Gives view (Ok x) r = r ≡ Ok (view x)
Gives view (Err e) r = FailsAs e r

-- A part of a format was read: whatever follows it, reading goes on behind it, or ends within it.
abbrev pub Reads : {X Y Z : Type 0} → (X → Y) → (X → List ℕ) → ((Y → Format Z) → Format Z)
    → List ℕ → Result X Fault → Type 0
Reads {X} {Y} {Z} view left part bytes (Ok x) =
    (next : Y → Format Z) → read (part next) bytes ≡ read (next (view x)) (left x)
Reads {X} {Y} {Z} view left part bytes (Err e) =
    (next : Y → Format Z) → FailsAs e (read (part next) bytes)
