-- Digits and their value.
use Rattle.std.proofs.Common.{◌≡◌, ◌∙◌, ◌<◌, ◌≤◌, ◌+◌, ◌*◌, ◌-◌, ◌^◌, ℕ, zero, suc, Bool, true}
use Rattle.std.proofs.Common.{false, cond, refl, sym, ap, arith, List, [], ◌∷◌, take, length}
use Rattle.std.proofs.Common.{get_or, lit≤}
use Rattle.std.specs.Prelude.{◌&&◌, nat_le, nat_lt}
use Rattle.std.specs.List.{list_all}
use Rattle.std.specs.Char.{digit_value}
use Rattle.std.specs.Str.Parse.{AllDigits, digits_value}
use Rattle.std.proofs.lemmas.Int.Digits.{digits_value-lt, digits_value_more}
use Rattle.clap.proofs.WalkLemmas.{both}
use Rattle.join_words.specs.Asks.{is_digit, is_number}

pub in_range : (b : ℕ) → is_digit b ≡ true → (48 ≤ b) × (b ≤ 57)
in_range b e =
    let p = both (nat_le 48 b) (nat_le b 57) e in
    (Rattle.std.proofs.Common.leb-true 48 b p.0, Rattle.std.proofs.Common.leb-true b 57 p.1)

pub digit-is : (b : ℕ) → is_digit b ≡ true → digit_value b ≡ b - 48
digit-is b e =
    let r = in_range b e in
    let low : nat_lt b 48 ≡ false = grind arith in
    let high : nat_lt b 58 ≡ true = grind arith in
    rw (low, high) refl

all-take : (xs : List ℕ) (i : ℕ) → list_all is_digit xs ≡ true → AllDigits 10 (take i xs)
all-take [] zero e = tt
all-take [] (suc i) e = tt
all-take (x ∷ xs) zero e = tt
all-take (x ∷ xs) (suc i) e =
    let p = both (is_digit x) (list_all is_digit xs) e in
    let r = in_range x p.0 in
    (rw (digit-is x p.0) (omega arith), all-take xs i p.1)

pub digits-of : (xs : List ℕ) → is_number xs ≡ true
    → (list_all is_digit xs ≡ true) × (length xs ≤ 7)
digits-of xs e =
    let p = both (nat_le 1 (length xs) && nat_le (length xs) 7) (list_all is_digit xs) e in (
      p.1,
      Rattle.std.proofs.Common.leb-true (length xs) 7
          (both (nat_le 1 (length xs)) (nat_le (length xs) 7) p.0).1,
    )

pub digit-at : (xs : List ℕ) (i : ℕ) → list_all is_digit xs ≡ true → i < length xs
    → is_digit (get_or xs i 0) ≡ true
digit-at [] i e h = absurd (omega arith)
digit-at (x ∷ xs) zero e h = (both (is_digit x) (list_all is_digit xs) e).0
digit-at (x ∷ xs) (suc i) e h =
    digit-at xs i (both (is_digit x) (list_all is_digit xs) e).1 (omega arith)

power : (n : ℕ) → n ≤ 6 → 10 ^ n ≤ 1000000
power zero h = lit≤ tt
power (suc zero) h = lit≤ tt
power (suc (suc zero)) h = lit≤ tt
power (suc (suc (suc zero))) h = lit≤ tt
power (suc (suc (suc (suc zero)))) h = lit≤ tt
power (suc (suc (suc (suc (suc zero))))) h = lit≤ tt
power (suc (suc (suc (suc (suc (suc zero)))))) h = lit≤ tt
power (suc (suc (suc (suc (suc (suc (suc n))))))) h = absurd (omega arith)

pub below : (xs : List ℕ) (i : ℕ) → is_number xs ≡ true → i < length xs
    → digits_value 10 (take i xs) < 1000000
below xs i e h =
    let d = digits-of xs e in
    let n : length (take i xs) ≤ 6 =
    simp Rattle.std.proofs.Common.length-take (omega (arith, d.1)) in
    omega (arith, digits_value-lt 10 (take i xs) (all-take xs i d.0), power (length (take i xs)) n)

pub one_digit_more : (xs : List ℕ) (i : ℕ) → is_number xs ≡ true → i < length xs
    → digits_value 10 (take (i + 1) xs) ≡ digits_value 10 (take i xs) * 10 + (get_or xs i 0 - 48)
one_digit_more xs i e h = digits_value_more 10 xs i h
    ∙ ap (λ d. digits_value 10 (take i xs) * 10 + d)
    (digit-is (get_or xs i 0) (digit-at xs i (digits-of xs e).0 h))
