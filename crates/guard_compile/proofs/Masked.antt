-- The mask of a level's channels has exactly their bits.
use Rattle.std.proofs.Common.{◌≡◌, ◌≢◌, ℕ, ◌+◌, ◌*◌, ◌/◌, ◌%◌, ◌^◌, ◌<◌, Bool, true, false, List}
use Rattle.std.proofs.Common.{[], ◌∷◌, ◌==◌, ◌||◌, length, get_or, set, eqb, refl, sym, ap, ◌∙◌}
use Rattle.std.proofs.Common.{inl, inr, arith, Some, cond}
use Rattle.std.specs.Prelude.{bit_or, replicate}
use Rattle.std.specs.Int.{bit_at, w64}
use Rattle.std.proofs.lemmas.Bool.{cases_eq, cases_lt}
use Rattle.std.proofs.lemmas.Bool.Decides.{nat_tests}
use Rattle.std.proofs.lemmas.List.{get_or-set_same, get_or-set_other, length-set, get_or_past}
use Rattle.std.proofs.lemmas.List.{get_or-replicate, length-replicate}
use Rattle.std.proofs.lemmas.Nat.Bits.{bit_at_set_same, bit_at_set_other, bit_at-zero}
use Rattle.chem_model.specs.declared.name.Pat.{Pat}
use Rattle.chem_model.specs.Each.{Each}
use Rattle.chem_model.specs.Binders.{is_among}
use Rattle.env_store.specs.Masks.{has_bit, number_of_words, IsMask}
use Rattle.env_store.specs.Reading.{position_from}
use Rattle.guard_compile.specs.Written.{channel_of, channels_of, with_bit, with_bits}
use Rattle.guard_compile.specs.Written.{mask_of}
use Rattle.guard_compile.proofs.Slotted.{IsChannel, channel_is}

-- ---- one bit

abbrev with_one : ℕ → ℕ → ℕ
with_one word bit = bit_or word (1 * 2 ^ bit % 2 ^ 64)

bit_there : (words : List ℕ) (bit : ℕ) → bit / 64 < length words
    → has_bit (with_bit words bit) bit ≡ true
bit_there words bit within =
    let small : bit % 64 < 64 = omega arith in
    rw (
      get_or-set_same words (bit / 64) (with_one (get_or words (bit / 64) 0) (bit % 64)) 0 within,
      bit_at_set_same w64 (get_or words (bit / 64) 0) (bit % 64) small,
    ) refl

bit_kept : (words : List ℕ) (bit i : ℕ) → bit / 64 < length words → i ≢ bit
    → has_bit (with_bit words bit) i ≡ has_bit words i
bit_kept words bit i within differs = elim (cases_eq (i / 64) (bit / 64)) [
  | inl same ↦
      let new = with_one (get_or words (bit / 64) 0) (bit % 64) in
      let small : bit % 64 < 64 = omega arith in
      let apart : i % 64 ≢ bit % 64 = λ equal. differs (omega arith) in
      let word : get_or (set words (bit / 64) new) (i / 64) 0 ≡ new =
      ap (λ w. get_or (set words (bit / 64) new) w 0) same
      ∙ get_or-set_same words (bit / 64) new 0 within in
      let was : get_or words (bit / 64) 0 ≡ get_or words (i / 64) 0 =
      ap (λ w. get_or words w 0) (sym same) in
      rw word (ap (λ b. eqb b 1)
      (bit_at_set_other w64 (get_or words (bit / 64) 0) (bit % 64) small (i % 64) apart
      ∙ ap (λ w. bit_at w (i % 64)) was))
  | inr other ↦ rw (get_or-set_other words (bit / 64) (i / 64)
      (with_one (get_or words (bit / 64) 0) (bit % 64)) 0 other) refl
]

no_bits : (n i : ℕ) → has_bit (replicate n 0) i ≡ false
no_bits n i = elim (cases_lt (i / 64) n) [
  | inl less ↦ rw (get_or-replicate {A = ℕ} n (i / 64) 0 0 less, bit_at-zero) refl
  | inr past ↦ rw (
    get_or_past {X = ℕ} (replicate n 0) (i / 64) 0 (omega (arith, length-replicate {A = ℕ} n 0)),
    bit_at-zero,
  ) refl
]

-- ---- all of them

with_bits_long : (words is : List ℕ) → length (with_bits words is) ≡ length words
with_bits_long words [] = refl
with_bits_long words (i ∷ is) = with_bits_long (with_bit words i) is
    ∙ length-set words (i / 64) (with_one (get_or words (i / 64) 0) (i % 64))

bits_are : (is words : List ℕ) (i : ℕ) → Each (λ j. j / 64 < length words) is
    → has_bit (with_bits words is) i ≡ has_bit words i || is_among is i
bits_are [] words i h = or_false (has_bit words i)
  where
    or_false : (t : Bool) → t ≡ t || false
    or_false true = refl
    or_false false = refl
bits_are (j ∷ is) words i h =
    bits_are is (with_bit words j) i (same_length is h.1) ∙ elim (cases_eq i j) [
      | inl same ↦ first same
      | inr other ↦ later other
    ]
  where
    same_length : (ks : List ℕ) → Each (λ k. k / 64 < length words) ks
        → Each (λ k. k / 64 < length (with_bit words j)) ks
    same_length [] g = tt
    same_length (k ∷ ks) g = (
      omega (arith, length-set words (j / 64) (with_one (get_or words (j / 64) 0) (j % 64)), g.0),
      same_length ks g.1,
    )

    first : i ≡ j
        → has_bit (with_bit words j) i || is_among is i
        ≡ has_bit words i || ((j == i) || is_among is i)
    first same =
        let there : has_bit (with_bit words j) i ≡ true =
        ap (has_bit (with_bit words j)) same ∙ bit_there words j h.0 in
        let equal : (j == i) ≡ true = grind (arith, nat_tests) in
        ap (λ t. t || is_among is i) there
        ∙ sym (ap (λ t. has_bit words i || (t || is_among is i)) equal ∙ or_true (has_bit words i))
      where
        or_true : (t : Bool) → t || true ≡ true
        or_true true = refl
        or_true false = refl

    later : i ≢ j
        → has_bit (with_bit words j) i || is_among is i
        ≡ has_bit words i || ((j == i) || is_among is i)
    later other =
        let equal : (j == i) ≡ false = grind (arith, nat_tests) in
        ap (λ t. t || is_among is i) (bit_kept words j i h.0 other)
        ∙ sym (ap (λ t. has_bit words i || (t || is_among is i)) equal)

-- ---- the channels of a level have words

placed_within : (k : ℕ) (xs : List ℕ) (b i : ℕ) → position_from k xs b ≡ Some i → i < k + length xs
placed_within k [] b i e = cc
placed_within k (x ∷ xs) b i e = go (x == b) (placed_within (k + 1) xs b i) e
  where
    go : (t : Bool) → (position_from (k + 1) xs b ≡ Some i → i < (k + 1) + length xs)
        → cond t (Some k) (position_from (k + 1) xs b) ≡ Some i → i < k + length (x ∷ xs)
    go true ih f = let same : k ≡ i = cc in omega arith
    go false ih f = let below = ih f in omega arith

pub channels_within : (channels : List ℕ) (ps : List Pat)
    → Each (λ (q : Pat). IsChannel channels q.on) ps
    → Each (λ j. j < length channels) (channels_of channels ps)
channels_within channels [] h = tt
channels_within channels (p ∷ ps) h =
    let at = channel_is channels p.on h.0.0 h.0.1 h.0.2 h.0.3 in
    let below = placed_within 0 channels h.0.0 (channel_of channels p.on) at in
    (omega arith, channels_within channels ps h.1)

pub mask_is : (channels : List ℕ) (ps : List Pat) → Each (λ (q : Pat). IsChannel channels q.on) ps
    → IsMask (length channels) (channels_of channels ps)
    (mask_of (length channels) (channels_of channels ps))
mask_is channels ps h =
    let n = number_of_words (length channels) in
    let zeros : List ℕ = replicate n 0 in
    let is = channels_of channels ps in
    record {
      count = with_bits_long zeros is ∙ length-replicate {A = ℕ} n 0;
      bits = λ i. bits_are is zeros i (words_there is (channels_within channels ps h))
          ∙ ap (λ t. t || is_among is i) (no_bits n i);
    }
  where
    words_there : (ks : List ℕ) → Each (λ j. j < length channels) ks
        → Each (λ j. j / 64 < length (replicate {A = ℕ} (number_of_words (length channels)) 0)) ks
    words_there [] g = tt
    words_there (k ∷ ks) g =
        let below = g.0 in (
          omega (arith, length-replicate {A = ℕ} (number_of_words (length channels)) 0),
          words_there ks g.1,
        )
