-- What is at the front of bytes: a field and a rest, in one way, or no such field.
use Rattle.std.proofs.Common.{◌≡◌, ◌≢◌, ℕ, zero, suc, ◌+◌, ◌-◌, ◌*◌, ◌^◌, ◌<◌, ◌≤◌, Bool, true}
use Rattle.std.proofs.Common.{false, cond, leb, eqb, List, [], ◌∷◌, ◌++◌, length, get_or, take}
use Rattle.std.proofs.Common.{drop, rules, Ok, Err, Option, Some, None, Bor, option_map, refl, sym}
use Rattle.std.proofs.Common.{ap, arith, inl, inr}
use Rattle.std.specs.Prelude.{◌⊎◌, ◌&&◌, ◌||◌, ◌==◌, not, decimal, fold, MatchOption}
use Rattle.std.specs.List.{prefix_len}
use Rattle.std.proofs.lemmas.Bool.{cases_lt, eqb-true, le-leb, lt-leb, leb-true}
use Rattle.std.proofs.lemmas.Bool.Decides.{nat_tests}
use Rattle.std.proofs.lemmas.Fmt.{digits_decimal, digits_value-decimal, decimal-digits_value}
use Rattle.std.proofs.lemmas.Fmt.{decimal_digit, first_decimal, decimal_nonempty}
use Rattle.std.proofs.lemmas.List.{take_at, drop_at, take-append-drop, length-append, length-take}
use Rattle.std.proofs.lemmas.Str.Parse.{IsNumeralModel, IsDigitsTest, numerals_by_fold}
use Rattle.trace_text.specs.Fields.{Field, word, number, counted, ValueOf, is_digit, NoDigit}
use Rattle.trace_text.specs.Fields.{IsWord, IsNumber, IsField, IsNoField}
use Rattle.trace_text.specs.inside.Reading.{behind, first_word, word_at, value_of, is_between}
use Rattle.trace_text.specs.inside.Reading.{is_numeral}
use Rattle.trace_text.specs.inside.Reading.{front}

-- ---- words

self_same : (c : ℕ) → eqb c c ≡ true
self_same c = grind (arith, nat_tests)

behind_some : (w rest : List ℕ) → behind w (w ++ rest) ≡ Some rest
behind_some [] rest = refl
behind_some (c ∷ w) rest = rw (self_same c) (behind_some w rest)

behind_found : (w bytes rest : List ℕ) → behind w bytes ≡ Some rest → bytes ≡ w ++ rest
behind_found [] bytes rest e = cc
behind_found (c ∷ w) [] rest e = cc
behind_found (c ∷ w) (b ∷ bytes) rest e = go (eqb b c) refl (behind_found w bytes rest) e
  where
    go : (t : Bool) → eqb b c ≡ t → (behind w bytes ≡ Some rest → bytes ≡ w ++ rest)
        → cond t (behind w bytes) None ≡ Some rest → b ∷ bytes ≡ c ∷ w ++ rest
    go true is more found = let same : b ≡ c = eqb-true b c is in let later = more found in cc
    go false is more found = cc

behind_not : (w bytes : List ℕ) → behind w bytes ≡ None → (rest : List ℕ) → bytes ≢ w ++ rest
behind_not w bytes e rest is =
    let found : behind w bytes ≡ Some rest = rw is (behind_some w rest) in
    cc

behind_none : (w bytes : List ℕ) → ((rest : List ℕ) → bytes ≢ w ++ rest) → behind w bytes ≡ None
behind_none w bytes h = go (behind w bytes) refl
  where
    go : (o : Option (List ℕ)) → behind w bytes ≡ o → o ≡ None
    go None is = refl
    go (Some rest) is = absurd (h rest (behind_found w bytes rest is))

pub behind_is : (w bytes : List ℕ) (r : Option (Bor (List ℕ)))
    → MatchOption r ((rest : List ℕ) → bytes ≢ w ++ rest) (λ x. bytes ≡ w ++ x.now)
    → option_map (λ x. x.now) r ≡ behind w bytes
behind_is w bytes (Some x) h = rw h (sym (behind_some w x.now))
behind_is w bytes None h = sym (behind_none w bytes h)

word_stands : (words : List (List ℕ)) (i : ℕ) (bytes rest : List ℕ) → IsWord words i bytes rest
    → word_at words bytes ≡ Ok (i, rest)
word_stands [] i bytes rest h = absurd h
word_stands (w ∷ words) zero bytes rest h = rw h (rw (behind_some w rest) refl)
word_stands (w ∷ words) (suc i) bytes rest h =
    rw (behind_none w bytes h.0, word_stands words i bytes rest h.1) refl

word_front : (words : List (List ℕ)) (bytes : List ℕ)
    → ((i : ℕ) × (rest : List ℕ) × IsWord words i bytes rest)
    ⊎ (word_at words bytes ≡ Err (length bytes))
word_front [] bytes = inr refl
word_front (w ∷ words) bytes = go (behind w bytes) refl (word_front words bytes)
  where
    go : (o : Option (List ℕ)) → behind w bytes ≡ o
        → ((i : ℕ) × (rest : List ℕ) × IsWord words i bytes rest)
        ⊎ (word_at words bytes ≡ Err (length bytes))
        → ((i : ℕ) × (rest : List ℕ) × IsWord (w ∷ words) i bytes rest)
        ⊎ (first_word (behind w bytes) (word_at words bytes) ≡ Err (length bytes))
    go (Some rest) is later = inl (0, rest, behind_found w bytes rest is)
    go None is (inl p) = inl (suc p.0, p.1, (behind_not w bytes is, p.2))
    go None is (inr e) = inr (rw (is, e) refl)

-- ---- numbers

abbrev pub Digits : List ℕ → Type 0
Digits [] = Unit {0}
Digits (d ∷ ds) = (is_digit d ≡ true) × Digits ds

abbrev value_after : ℕ → List ℕ → ℕ
value_after n ds = fold (λ v d. v * 10 + (d - 48)) n ds

tests : IsDigitsTest Digits
tests = record {
  empty = tt;
  parts = λ c cs h. (((grind (arith, nat_tests, h.0)), (grind (arith, nat_tests, h.0))), h.1);
  more = λ c cs h p. (grind (arith, nat_tests, h.0, h.1), p);
}

own : IsNumeralModel Digits value_of
own = numerals_by_fold Digits tests value_after (search rules)

run_is : (ds rest : List ℕ) → Digits ds → NoDigit rest
    → prefix_len is_digit (ds ++ rest) ≡ length ds
run_is [] [] h no_digit = refl
run_is [] (b ∷ rest) h no_digit = rw no_digit refl
run_is (d ∷ ds) rest h no_digit =
    let more = run_is ds rest h.1 no_digit in
    rw h.0 (omega (arith, more))

run_digits : (bytes : List ℕ)
    → Digits (take (prefix_len is_digit bytes) bytes)
    × NoDigit (drop (prefix_len is_digit bytes) bytes)
run_digits [] = (tt, tt)
run_digits (b ∷ bytes) = go (is_digit b) refl (run_digits bytes)
  where
    go : (t : Bool) → is_digit b ≡ t
        → Digits (take (prefix_len is_digit bytes) bytes)
        × NoDigit (drop (prefix_len is_digit bytes) bytes)
        → Digits (take (cond t (1 + prefix_len is_digit bytes) 0) (b ∷ bytes))
        × NoDigit (drop (cond t (1 + prefix_len is_digit bytes) 0) (b ∷ bytes))
    go true is h =
        let one : 1 + prefix_len is_digit bytes ≡ suc (prefix_len is_digit bytes) = omega arith in
        rw one ((is, h.0), h.1)
    go false is h = (tt, is)

both_true : (s t : Bool) → s ≡ true → t ≡ true → (s && t) ≡ true
both_true true true d e = refl
both_true true false d e = cc
both_true false t d e = cc

pub true_both : (s t : Bool) → (s && t) ≡ true → (s ≡ true) × (t ≡ true)
true_both true true e = (refl, refl)
true_both true false e = cc
true_both false t e = cc

numeral_of : (low high n : ℕ) (ds : List ℕ) → low ≤ n → n ≤ high → n < 2 ^ 64 → value_of ds ≡ n
    → 0 < length ds → (0 < n → 48 < get_or ds 0 0) → (n ≡ 0 → length ds ≡ 1)
    → is_numeral low high ds ≡ true
numeral_of low high n [] large small bits is some head alone = absurd (omega arith)
numeral_of low high n (d ∷ ds) large small bits is some head alone =
    elim (cases_lt 0 n) [
      | inl lt ↦
          let above = head lt in
          let not_zero : (d == 48) ≡ false = grind (arith, nat_tests) in
          rw (not_zero, is) bounds
      | inr le ↦
          let one : length ds ≡ 0 = omega (arith, alone (omega arith)) in
          rw (one, is) (go (d == 48))
    ]
  where
    bounds : is_between low high n ≡ true
    bounds = both_true _ _ (le-leb low n large)
        (both_true _ _ (le-leb n high small) (grind (arith, nat_tests)))

    go : (t : Bool) → ((not t || true) && is_between low high n) ≡ true
    go true = bounds
    go false = bounds

decimal_is : (low high n : ℕ) → low ≤ n → n ≤ high → n < 2 ^ 64
    → is_numeral low high (decimal n) ≡ true
decimal_is low high n large small bits = numeral_of low high n (decimal n) large small bits
    (digits_value-decimal own n bits) (decimal_nonempty n bits) (λ lt. first_decimal n lt bits)
    (λ e. rw e (ap length (decimal_digit 0 (omega arith))))

number_stands : (low high n : ℕ) (bytes rest : List ℕ) → IsNumber low high n bytes rest
    → front (number low high) bytes ≡ Ok (n, rest)
number_stands low high n bytes rest h =
    let run : prefix_len is_digit (decimal n ++ rest) ≡ length (decimal n) =
    run_is (decimal n) rest (digits_decimal own n h.bits) h.longest in
    rw h.is (rw (
      run,
      take_at (decimal n) rest (length (decimal n)) refl,
      drop_at (decimal n) rest (length (decimal n)) refl,
      decimal_is low high n h.large h.small h.bits,
      digits_value-decimal own n h.bits,
    ) refl)

-- what is a numeral is a number of 64 bits in decimal
numeral_is : (low high : ℕ) (ds : List ℕ) → Digits ds → is_numeral low high ds ≡ true
    → (low ≤ value_of ds) × (value_of ds ≤ high) × (value_of ds < 2 ^ 64)
    × (decimal (value_of ds) ≡ ds)
numeral_is low high [] digits e = cc
numeral_is low high (d ∷ ds) digits e =
    let p = true_both _ _ e in
    let q = true_both _ _ p.1 in
    let r = true_both _ _ q.1 in
    let bits : value_of (d ∷ ds) < 2 ^ 64 = grind (arith, nat_tests, r.1) in
    let alone : d ≡ 48 → length (d ∷ ds) ≡ 1 = λ zero_first. lone d ds zero_first p.0 in
    let some : 0 < length (d ∷ ds) = omega arith in (
      leb-true _ _ q.0,
      leb-true _ _ r.0,
      bits,
      decimal-digits_value own (d ∷ ds) digits some alone bits,
    )
  where
    lone : (d : ℕ) (ds : List ℕ) → d ≡ 48 → (not (d == 48) || length ds == 0) ≡ true
        → length (d ∷ ds) ≡ 1
    lone d [] first e = refl
    lone d (x ∷ ds) first e =
        let head : (d == 48) ≡ true = grind (arith, nat_tests) in
        let long : (length (x ∷ ds) == 0) ≡ false = grind (arith, nat_tests) in
        let off : (not (d == 48) || length (x ∷ ds) == 0) ≡ false = rw (head, long) refl in
        cc

number_front : (low high : ℕ) (bytes : List ℕ)
    → ((n : ℕ) × (rest : List ℕ) × IsNumber low high n bytes rest)
    ⊎ (front (number low high) bytes ≡ Err (length bytes))
number_front low high bytes = go (is_numeral low high (take run bytes)) refl
  where
    run : ℕ
    run = prefix_len is_digit bytes

    go : (t : Bool) → is_numeral low high (take (prefix_len is_digit bytes) bytes) ≡ t
        → ((n : ℕ) × (rest : List ℕ) × IsNumber low high n bytes rest)
        ⊎ (front (number low high) bytes ≡ Err (length bytes))
    go true is =
        let d = run_digits bytes in
        let p = numeral_is low high (take (prefix_len is_digit bytes) bytes) d.0 is in
        inl (
          value_of (take (prefix_len is_digit bytes) bytes),
          drop (prefix_len is_digit bytes) bytes,
          record {
            large = p.0;
            small = p.1;
            bits = p.2;
            is = rw p.3 (sym (take-append-drop (prefix_len is_digit bytes) bytes));
            longest = d.1;
          },
        )
    go false is = inr (rw is refl)

-- ---- each field

-- where a field stands it is read
pub stands : (f : Field) (value : ValueOf f) (bytes rest : List ℕ) → IsField f value bytes rest
    → front f bytes ≡ Ok (value, rest)
stands (word words) i bytes rest h = word_stands words i bytes rest h
stands (number low high) n bytes rest h = number_stands low high n bytes rest h
stands (counted n) text bytes rest h =
    let long : leb n (length (text ++ rest)) ≡ true =
    le-leb _ _ (omega (arith, length-append text rest, h.0)) in
    rw h.1 (rw (long, take_at text rest n h.0, drop_at text rest n h.0) refl)

-- a field stands at the front, or reading it fails
pub stands_or_not : (f : Field) (bytes : List ℕ)
    → ((value : ValueOf f) × (rest : List ℕ) × IsField f value bytes rest)
    ⊎ (front f bytes ≡ Err (length bytes))
stands_or_not (word words) bytes = word_front words bytes
stands_or_not (number low high) bytes = number_front low high bytes
stands_or_not (counted n) bytes =
    elim (cases_lt (length bytes) n) [
      | inl lt ↦ inr (rw (lt-leb _ _ lt) refl)
      | inr le ↦ inl (
        take n bytes,
        drop n bytes,
        (omega (arith, length-take n bytes), sym (take-append-drop n bytes)),
      )
    ]

-- where reading a field fails none stands
pub stands_not : (f : Field) (bytes : List ℕ) (left : ℕ) → front f bytes ≡ Err left
    → IsNoField f bytes
stands_not f bytes left e value rest h =
    let got : front f bytes ≡ Ok (value, rest) = stands f value bytes rest h in
    cc

-- where no field stands reading it fails
pub fails : (f : Field) (bytes : List ℕ) → IsNoField f bytes → front f bytes ≡ Err (length bytes)
fails f bytes h =
    elim (stands_or_not f bytes) [
      | inl p ↦ absurd (h p.0 p.1 p.2)
      | inr e ↦ e
    ]

word_shorter : (words : List (List ℕ)) (i : ℕ) (bytes rest : List ℕ) → IsWord words i bytes rest
    → length rest ≤ length bytes
word_shorter [] i bytes rest h = absurd h
word_shorter (w ∷ words) zero bytes rest h = omega (arith, ap length h, length-append w rest)
word_shorter (w ∷ words) (suc i) bytes rest h = word_shorter words i bytes rest h.1

-- what is behind a field is no longer
pub shorter : (f : Field) (value : ValueOf f) (bytes rest : List ℕ) → IsField f value bytes rest
    → length rest ≤ length bytes
shorter (word words) i bytes rest h = word_shorter words i bytes rest h
shorter (number low high) n bytes rest h =
    omega (arith, ap length h.is, length-append (decimal n) rest)
shorter (counted n) text bytes rest h = omega (arith, ap length h.1, length-append text rest)
