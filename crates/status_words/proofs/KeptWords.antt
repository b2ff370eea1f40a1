-- Words by those that have a number: which they are, what one number more makes of them, and when
-- all of their numbers are in another set.
use Rattle.std.proofs.Common.{◌≡◌, ℕ, zero, suc, ◌+◌, ◌*◌, ◌/◌, ◌%◌, ◌^◌, ◌<◌, ◌≤◌, Bool, true}
use Rattle.std.proofs.Common.{false, cond, List, [], ◌∷◌, length, drop, get_or, set}
use Rattle.std.proofs.Common.{Some, eqb, refl, sym, ap, subst, ◌∙◌, inl, inr, arith, eqb-true}
use Rattle.std.proofs.Common.{eq-eqb}
use Rattle.std.specs.Prelude.{bit_and, bit_or, nat_lt, replicate, slice_get, slice_index}
use Rattle.std.specs.Prelude.{slice_set, zip, insert, ◌==◌, ◌&&◌}
use Rattle.std.specs.Int.{bit_at}
use Rattle.std.proofs.lemmas.Bool.{cases_eq, cases_lt, and_parts}
use Rattle.std.proofs.lemmas.Bool.Decides.{nat_tests}
use Rattle.std.proofs.lemmas.List.{get_or-set_same, get_or-set_other, same_lists, length-set}
use Rattle.std.proofs.lemmas.List.{get_or_past}
use Rattle.std.proofs.lemmas.Nat.{and_le_l, or_disjoint, or_lt}
use Rattle.std.proofs.lemmas.Nat.Bits.{bit_at-zero, bit_at_and, bit_at-lt, same_from_bits_below}
use Rattle.status_words.specs.declared.sparse.Word.{Word}
use Rattle.status_words.specs.Words.{has_bit, Covers}
use Rattle.status_words.specs.inside.Stored.{bits_from, AreWords}
use Rattle.status_words.specs.inside.Kept.{word_at, words_from, AreRising, word_of}
use Rattle.status_words.specs.inside.Kept.{place_in, is_at, put, is_same, same_pairs, same_words}
use Rattle.status_words.specs.inside.Kept.{is_in, all_in, AreIn}
use Rattle.status_words.proofs.SingleBits.{eqb-one, one-eqb, covered_bit, Covers-all}
use Rattle.status_words.proofs.SingleBits.{at-bits_from, length-bits_from}

not-same : (x y : ℕ) → (x ≡ y → ⊥) → (x == y) ≡ false
not-same x y other = go (x == y) refl
  where
    go : (t : Bool) → (x == y) ≡ t → (x == y) ≡ false
    go true e = absurd (other (eqb-true x y e))
    go false e = e

-- ---- the words

pub words-many : (ws : List Word) (k n : ℕ) → length (words_from ws k n) ≡ n
words-many ws k zero = refl
words-many ws k (suc n) = ap suc (words-many ws (k + 1) n)

words-at : (ws : List Word) (k n i d : ℕ) → i < n → get_or (words_from ws k n) i d ≡ word_at ws (k + i)
words-at ws k zero i d less = absurd (omega arith)
words-at ws k (suc n) zero d less = let e : k ≡ k + 0 = omega arith in ap (word_at ws) e
words-at ws k (suc n) (suc i) d less =
    let e : k + 1 + i ≡ k + suc i = omega arith in
    words-at ws (k + 1) n i d (omega arith) ∙ ap (word_at ws) e

none-past : (ws : List Word) (least n k : ℕ) → AreRising least n ws → n ≤ k → word_at ws k ≡ 0
none-past [] least n k are past = refl
none-past (w ∷ ws) least n k are past =
    let below = are.0.below in
    let other : (w.place == k) ≡ false = not-same w.place k (λ e. omega arith) in
    ap (λ t. cond t w.bits (word_at ws k)) other ∙ none-past ws (suc w.place) n k are.1 past

none-before : (ws : List Word) (least n k : ℕ) → AreRising least n ws → k < least
    → word_at ws k ≡ 0
none-before [] least n k are less = refl
none-before (w ∷ ws) least n k are less =
    let from = are.0.from in
    let other : (w.place == k) ≡ false = not-same w.place k (λ e. omega arith) in
    ap (λ t. cond t w.bits (word_at ws k)) other
    ∙ none-before ws (suc w.place) n k are.1 (omega arith)

pub words-index : (ws : List Word) (n i : ℕ) → AreRising 0 n ws
    → slice_index (words_from ws 0 n) i ≡ word_at ws i
words-index ws n i are = elim (cases_lt i n) [
  | inl less ↦
      let e : 0 + i ≡ i = omega arith in
      words-at ws 0 n i 0 less ∙ ap (word_at ws) e
  | inr past ↦ get_or_past (words_from ws 0 n) i 0 (omega (arith, words-many ws 0 n))
      ∙ sym (none-past ws 0 n i are past)
]

pub no-words : (n : ℕ) → words_from [] 0 n ≡ replicate n 0
no-words n = from 0 n
  where
    from : (k m : ℕ) → words_from [] k m ≡ replicate m 0
    from k zero = refl
    from k (suc m) = ap (λ ws. 0 ∷ ws) (from (k + 1) m)

-- ---- one number more

or-zero : (b : ℕ) → bit_or 0 b ≡ b
or-zero b =
    let none : bit_and 0 b ≡ 0 = omega (arith, and_le_l 0 b) in
    let sum : 0 + b ≡ b = omega arith in
    or_disjoint 0 b none ∙ sum

put-other : (ws : List Word) (k b j : ℕ) → (j ≡ k → ⊥) → word_at (put ws k b) j ≡ word_at ws j
put-other [] k b j other = ap (λ t. cond t b 0) (not-same k j (λ e. other (sym e)))
put-other (w ∷ ws) k b j other =
    go (nat_lt w.place k) (w.place == k) refl (put-other ws k b j other)
  where
    go : (s t : Bool) → (w.place == k) ≡ t → word_at (put ws k b) j ≡ word_at ws j
        → word_at (cond s (w ∷ put ws k b)
        (cond t (word_of k (bit_or w.bits b) ∷ ws) (word_of k b ∷ w ∷ ws))) j
        ≡ word_at (w ∷ ws) j
    go true t q rest = ap (cond (w.place == j) w.bits) rest
    go false true q rest =
        let same : w.place ≡ k = eqb-true w.place k q in
        let new : (k == j) ≡ false = not-same k j (λ e. other (sym e)) in
        let old : (w.place == j) ≡ false = not-same w.place j (λ e. other (sym e ∙ same)) in
        ap (λ t. cond t (bit_or w.bits b) (word_at ws j)) new
        ∙ sym (ap (λ t. cond t w.bits (word_at ws j)) old)
    go false false q rest =
        ap (λ t. cond t b (word_at (w ∷ ws) j)) (not-same k j (λ e. other (sym e)))

put-same : (ws : List Word) (k b least n : ℕ) → AreRising least n ws
    → word_at (put ws k b) k ≡ bit_or (word_at ws k) b
put-same [] k b least n are = ap (λ t. cond t b 0) (eq-eqb k k refl) ∙ sym (or-zero b)
put-same (w ∷ ws) k b least n are =
    go (nat_lt w.place k) refl (w.place == k) refl (put-same ws k b (suc w.place) n are.1)
  where
    go : (s : Bool) → nat_lt w.place k ≡ s → (t : Bool) → (w.place == k) ≡ t
        → word_at (put ws k b) k ≡ bit_or (word_at ws k) b
        → word_at (cond s (w ∷ put ws k b)
        (cond t (word_of k (bit_or w.bits b) ∷ ws) (word_of k b ∷ w ∷ ws))) k
        ≡ bit_or (word_at (w ∷ ws) k) b
    go true p t q rest =
        let less : w.place < k = grind (arith, nat_tests) in
        let apart : (w.place == k) ≡ false = not-same w.place k (λ e. omega arith) in
        ap (λ u. cond u w.bits (word_at (put ws k b) k)) apart ∙ rest
        ∙ sym (ap (λ u. bit_or (cond u w.bits (word_at ws k)) b) apart)
    go false p true q rest = ap (λ u. cond u (bit_or w.bits b) (word_at ws k)) (eq-eqb k k refl)
        ∙ sym (ap (λ u. bit_or (cond u w.bits (word_at ws k)) b) q)
    go false p false q rest =
        let less : k < suc w.place = grind (arith, nat_tests) in
        let none : word_at ws k ≡ 0 = none-before ws (suc w.place) n k are.1 less in
        ap (λ u. cond u b (word_at (w ∷ ws) k)) (eq-eqb k k refl)
        ∙ sym (ap (λ u. bit_or (cond u w.bits (word_at ws k)) b) q ∙ ap (λ v. bit_or v b) none
        ∙ or-zero b)

pub put-rising : (ws : List Word) (k b least n : ℕ) → AreRising least n ws → least ≤ k → k < n
    → b < 2 ^ 64 → AreRising least n (put ws k b)
put-rising [] k b least n are from below fits =
    (record { from = from; below = below; fits = fits }, tt)
put-rising (w ∷ ws) k b least n are from below fits =
    go (nat_lt w.place k) refl (w.place == k) refl
    (λ less. put-rising ws k b (suc w.place) n are.1 less below fits)
  where
    go : (s : Bool) → nat_lt w.place k ≡ s → (t : Bool) → (w.place == k) ≡ t
        → (suc w.place ≤ k → AreRising (suc w.place) n (put ws k b))
        → AreRising least n (cond s (w ∷ put ws k b)
        (cond t (word_of k (bit_or w.bits b) ∷ ws) (word_of k b ∷ w ∷ ws)))
    go true p t q rest =
        let less : suc w.place ≤ k = grind (arith, nat_tests) in
        (are.0, rest less)
    go false p true q rest =
        let same : w.place ≡ k = eqb-true w.place k q in (
          record { from = from; below = below; fits = or_lt 64 w.bits b are.0.fits fits },
          subst (λ j. AreRising (suc j) n ws) same are.1,
        )
    go false p false q rest =
        let less : suc k ≤ w.place = grind (arith, nat_tests) in (
          record { from = from; below = below; fits = fits },
          (record { from = less; below = are.0.below; fits = are.0.fits }, are.1),
        )

pub put-words : (ws : List Word) (k b n : ℕ) → AreRising 0 n ws → k < n
    → words_from (put ws k b) 0 n
    ≡ slice_set (words_from ws 0 n) k (bit_or (slice_index (words_from ws 0 n) k) b)
put-words ws k b n are less =
    same_lists (words_from (put ws k b) 0 n)
    (set (words_from ws 0 n) k (bit_or (slice_index (words_from ws 0 n) k) b))
    (words-many (put ws k b) 0 n ∙ sym (length-set (words_from ws 0 n) k _ ∙ words-many ws 0 n))
    (λ j d within. at j d (omega (arith, words-many (put ws k b) 0 n)))
  where
    at : (j d : ℕ) → j < n
        → get_or (words_from (put ws k b) 0 n) j d
        ≡ get_or (set (words_from ws 0 n) k (bit_or (slice_index (words_from ws 0 n) k) b)) j d
    at j d within =
        let new = bit_or (slice_index (words_from ws 0 n) k) b in
        let zeroed : 0 + j ≡ j = omega arith in
        let left : get_or (words_from (put ws k b) 0 n) j d ≡ word_at (put ws k b) j =
        words-at (put ws k b) 0 n j d within ∙ ap (word_at (put ws k b)) zeroed in
        let right : get_or (words_from ws 0 n) j d ≡ word_at ws j =
        words-at ws 0 n j d within ∙ ap (word_at ws) zeroed in
        elim (cases_eq j k) [
          | inl same ↦ left ∙ ap (word_at (put ws k b)) same ∙ put-same ws k b 0 n are
              ∙ ap (λ w. bit_or w b) (sym (words-index ws n k are))
              ∙ sym (ap (λ i. get_or (set (words_from ws 0 n) k new) i d) same
              ∙ get_or-set_same (words_from ws 0 n) k new d
              (omega (arith, words-many ws 0 n)))
          | inr differs ↦ left ∙ put-other ws k b j differs
              ∙ sym (get_or-set_other (words_from ws 0 n) k j new d differs ∙ right)
        ]

-- where there is no word for it
pub set-past : (words : List ℕ) (k w : ℕ) → length words ≤ k → words ≡ slice_set words k w
set-past [] k w past = refl
set-past (x ∷ words) zero w past = absurd (omega arith)
set-past (x ∷ words) (suc k) w past = ap (λ xs. x ∷ xs) (set-past words k w (omega arith))

-- ---- its place

pub place-here : (ws : List Word) (i k : ℕ) (d : Word) → i < length ws
    → place_in (drop i ws) k
    ≡ cond (nat_lt (get_or ws i d).place k) (suc (place_in (drop (i + 1) ws) k)) 0
place-here [] i k d within = absurd (omega arith)
place-here (x ∷ ws) zero k d within = refl
place-here (x ∷ ws) (suc i) k d within =
    let e : suc i + 1 ≡ suc (i + 1) = omega arith in
    rw e (place-here ws i k d (omega arith))

pub place-past : (ws : List Word) (i k : ℕ) → length ws ≤ i → place_in (drop i ws) k ≡ 0
place-past [] zero k past = refl
place-past [] (suc i) k past = refl
place-past (x ∷ ws) zero k past = absurd (omega arith)
place-past (x ∷ ws) (suc i) k past = place-past ws i k (omega arith)

pub place-within : (ws : List Word) (k : ℕ) → place_in ws k ≤ length ws
place-within [] k = omega arith
place-within (w ∷ ws) k = go (nat_lt w.place k) (place-within ws k)
  where
    go : (s : Bool) → place_in ws k ≤ length ws
        → cond s (suc (place_in ws k)) 0 ≤ length (w ∷ ws)
    go true rest = omega arith
    go false rest = omega arith

put-hit : (ws : List Word) (k b : ℕ) (w : Word) → slice_get ws (place_in ws k) ≡ Some w
    → is_at (slice_get ws (place_in ws k)) k ≡ true
    → put ws k b ≡ slice_set ws (place_in ws k) (word_of k (bit_or w.bits b))
put-hit [] k b w at hit = absurd (cc)
put-hit (x ∷ ws) k b w at hit = go (nat_lt x.place k) at hit (put-hit ws k b w)
  where
    go : (s : Bool) → slice_get (x ∷ ws) (cond s (suc (place_in ws k)) 0) ≡ Some w
        → is_at (slice_get (x ∷ ws) (cond s (suc (place_in ws k)) 0)) k ≡ true
        → (slice_get ws (place_in ws k) ≡ Some w → is_at (slice_get ws (place_in ws k)) k ≡ true
        → put ws k b ≡ slice_set ws (place_in ws k) (word_of k (bit_or w.bits b)))
        → cond s (x ∷ put ws k b)
        (cond (x.place == k) (word_of k (bit_or x.bits b) ∷ ws) (word_of k b ∷ x ∷ ws))
        ≡ slice_set (x ∷ ws) (cond s (suc (place_in ws k)) 0) (word_of k (bit_or w.bits b))
    go true at hit rest = ap (λ vs. x ∷ vs) (rest at hit)
    go false at hit rest =
        let same : x ≡ w = cc in
        ap (λ t. cond t (word_of k (bit_or x.bits b) ∷ ws) (word_of k b ∷ x ∷ ws)) hit
        ∙ ap (λ (v : Word). word_of k (bit_or v.bits b) ∷ ws) same

put-miss : (ws : List Word) (k b : ℕ) → is_at (slice_get ws (place_in ws k)) k ≡ false
    → put ws k b ≡ insert ws (place_in ws k) (word_of k b)
put-miss [] k b miss = refl
put-miss (x ∷ ws) k b miss = go (nat_lt x.place k) miss (put-miss ws k b)
  where
    go : (s : Bool) → is_at (slice_get (x ∷ ws) (cond s (suc (place_in ws k)) 0)) k ≡ false
        → (is_at (slice_get ws (place_in ws k)) k ≡ false
        → put ws k b ≡ insert ws (place_in ws k) (word_of k b))
        → cond s (x ∷ put ws k b)
        (cond (x.place == k) (word_of k (bit_or x.bits b) ∷ ws) (word_of k b ∷ x ∷ ws))
        ≡ insert (x ∷ ws) (cond s (suc (place_in ws k)) 0) (word_of k b)
    go true miss rest = ap (λ vs. x ∷ vs) (rest miss)
    go false miss rest =
        ap (λ t. cond t (word_of k (bit_or x.bits b) ∷ ws) (word_of k b ∷ x ∷ ws)) miss

pub at-within : (ws : List Word) (i k : ℕ) → is_at (slice_get ws i) k ≡ true → i < length ws
at-within [] i k hit = cc
at-within (x ∷ ws) zero k hit = omega arith
at-within (x ∷ ws) (suc i) k hit = omega (arith, at-within ws i k hit)

pub hit-at : (ws : List Word) (k b i : ℕ) (w : Word) → i ≡ place_in ws k → slice_get ws i ≡ Some w
    → is_at (slice_get ws i) k ≡ true
    → slice_set ws i (word_of k (bit_or w.bits b)) ≡ put ws k b
hit-at ws k b i w is at hit = ap (λ j. slice_set ws j (word_of k (bit_or w.bits b))) is
    ∙ sym (put-hit ws k b w (ap (slice_get ws) (sym is) ∙ at)
    (ap (λ j. is_at (slice_get ws j) k) (sym is) ∙ hit))

pub miss-at : (ws : List Word) (k b i : ℕ) → i ≡ place_in ws k
    → is_at (slice_get ws i) k ≡ false → insert ws i (word_of k b) ≡ put ws k b
miss-at ws k b i is miss = ap (λ j. insert ws j (word_of k b)) is
    ∙ sym (put-miss ws k b (ap (λ j. is_at (slice_get ws j) k) (sym is) ∙ miss))

-- ---- the same words

same-all : (ws vs : List Word) → length ws ≡ length vs → same_pairs (zip ws vs) ≡ true → ws ≡ vs
same-all [] [] many all = refl
same-all [] (v ∷ vs) many all = absurd (omega arith)
same-all (w ∷ ws) [] many all = absurd (omega arith)
same-all (w ∷ ws) (v ∷ vs) many all =
    let both = and_parts (is_same w v) (same_pairs (zip ws vs)) all in
    let here = and_parts (w.place == v.place) (w.bits == v.bits) both.0 in
    let place = eqb-true w.place v.place here.0 in
    let bits = eqb-true w.bits v.bits here.1 in
    let head : w ≡ v = λ i. record { place = place i; bits = bits i } in
    ap (λ x. x ∷ ws) head ∙ ap (λ xs. v ∷ xs) (same-all ws vs (omega arith) both.1)

pub same-is : (ws vs : List Word) → same_words ws vs ≡ true → ws ≡ vs
same-is ws vs same =
    let both = and_parts (length ws == length vs) (same_pairs (zip ws vs)) same in
    same-all ws vs (eqb-true (length ws) (length vs) both.0) both.1

-- ---- each number is in another set

in-bits : (ws : List Word) (held : List ℕ) (k i : ℕ) → all_in held ws ≡ true
    → bit_at (word_at ws k) i ≡ 1 → bit_at (slice_index held k) i ≡ 1
in-bits [] held k i all one = absurd (omega (arith, bit_at-zero i, one))
in-bits (w ∷ ws) held k i all one =
    let both = and_parts (is_in held w) (all_in held ws) all in
    go (w.place == k) refl both.0 one (λ later. in-bits ws held k i both.1 later)
  where
    go : (t : Bool) → (w.place == k) ≡ t → is_in held w ≡ true
        → bit_at (cond t w.bits (word_at ws k)) i ≡ 1
        → (bit_at (word_at ws k) i ≡ 1 → bit_at (slice_index held k) i ≡ 1)
        → bit_at (slice_index held k) i ≡ 1
    go true same covered one rest =
        subst (λ j. bit_at (slice_index held j) i ≡ 1) (eqb-true w.place k same)
        (covered_bit w.bits (slice_index held w.place) i (eqb-true _ _ covered) one)
    go false same covered one rest = rest one

not-in : (ws : List Word) (held : List ℕ) (least n : ℕ) → AreRising least n ws
    → all_in held ws ≡ false
    → ((k i : ℕ) → i < 64 → bit_at (word_at ws k) i ≡ 1 → bit_at (slice_index held k) i ≡ 1) → ⊥
not-in [] held least n are none all = cc
not-in (w ∷ ws) held least n are none all =
    go (is_in held w) refl none (λ f. not-in ws held (suc w.place) n are.1 f later)
  where
    own : word_at (w ∷ ws) w.place ≡ w.bits
    own = ap (λ t. cond t w.bits (word_at ws w.place)) (eq-eqb w.place w.place refl)

    later : (k i : ℕ) → i < 64 → bit_at (word_at ws k) i ≡ 1 → bit_at (slice_index held k) i ≡ 1
    later k i small one = elim (cases_eq w.place k) [
      | inl same ↦
          let gone : word_at ws k ≡ 0 =
          none-before ws (suc w.place) n k are.1 (omega arith) in
          let zeroed : bit_at (word_at ws k) i ≡ 0 = ap (λ v. bit_at v i) gone ∙ bit_at-zero i in
          absurd (omega arith)
      | inr differs ↦ all k i small (ap (λ t. bit_at (cond t w.bits (word_at ws k)) i)
          (not-same w.place k differs) ∙ one)
    ]

    each : (i : ℕ) → i < 64
        → bit_at (bit_and w.bits (slice_index held w.place)) i ≡ bit_at w.bits i
    each i small =
        let both = bit_at_and w.bits (slice_index held w.place) i in
        elim (cases_eq (bit_at w.bits i) 1) [
          | inl one ↦
              let there : bit_at (slice_index held w.place) i ≡ 1 =
              all w.place i small (ap (λ v. bit_at v i) own ∙ one) in
              both ∙ (omega arith)
          | inr other ↦ both ∙ (omega (arith, bit_at-lt w.bits i))
        ]

    go : (t : Bool) → is_in held w ≡ t → t && all_in held ws ≡ false
        → (all_in held ws ≡ false → ⊥) → ⊥
    go true is none rest = rest none
    go false is none rest =
        let fits = are.0.fits in
        let whole : bit_and w.bits (slice_index held w.place) ≡ w.bits =
        same_from_bits_below 64 (bit_and w.bits (slice_index held w.place)) w.bits
        (omega (arith, and_le_l w.bits (slice_index held w.place))) fits
        (λ i small. each i small) in
        let clash : true ≡ false = sym (eq-eqb _ _ whole) ∙ is in
        cc

pub in-from : (ws : List Word) (n : ℕ) (held : List ℕ) → AreRising 0 n ws → all_in held ws ≡ true
    → AreIn (words_from ws 0 n) held
in-from ws n held are all i has =
    let word = words-index ws n (i / 64) are in
    let one : bit_at (word_at ws (i / 64)) (i % 64) ≡ 1 =
    ap (λ w. bit_at w (i % 64)) (sym word) ∙ eqb-one _ has in
    one-eqb _ (in-bits ws held (i / 64) (i % 64) all one)

pub in-to : (ws : List Word) (n : ℕ) (held : List ℕ) → AreRising 0 n ws
    → AreIn (words_from ws 0 n) held → all_in held ws ≡ true
in-to ws n held are all = go (all_in held ws) refl
  where
    bit : (k i : ℕ) → i < 64 → bit_at (word_at ws k) i ≡ 1 → bit_at (slice_index held k) i ≡ 1
    bit k i small one =
        let word : (64 * k + i) / 64 ≡ k = omega arith in
        let rest : (64 * k + i) % 64 ≡ i = omega arith in
        let here : bit_at (slice_index (words_from ws 0 n) k) i ≡ 1 =
        ap (λ w. bit_at w i) (words-index ws n k are) ∙ one in
        let has : has_bit (words_from ws 0 n) (64 * k + i) ≡ true =
        rw (word, rest) (one-eqb _ here) in
        let got = all (64 * k + i) has in
        let has_there : eqb (bit_at (slice_index held k) i) 1 ≡ true =
        (ap (λ w. eqb (bit_at (slice_index held w) i) 1) (sym word)
        ∙ ap (λ b. eqb (bit_at (slice_index held ((64 * k + i) / 64)) b) 1) (sym rest)) ∙ got in
        eqb-one _ has_there

    go : (t : Bool) → all_in held ws ≡ t → all_in held ws ≡ true
    go true e = e
    go false e = absurd (not-in ws held 0 n are e bit)

-- ---- a set of numbers below a size covers it

pub covers-from : (mask words : List ℕ) (size : ℕ) → AreWords size words → AreIn mask words
    → Covers (bits_from words 0 size) mask
covers-from mask words size are all =
    Covers-all mask words size (length mask) (omega arith) are (λ j less has. all j has)

pub covers-to : (mask words : List ℕ) (size : ℕ) → Covers (bits_from words 0 size) mask
    → AreIn mask words
covers-to mask words size covers i has = elim (cases_lt i size) [
  | inl less ↦
      let e : i ≡ 0 + i = omega arith in
      ap (has_bit words) e ∙ sym (at-bits_from words 0 size i false less) ∙ covers i has
  | inr past ↦ absurd (let none : get_or (bits_from words 0 size) i false ≡ false =
      get_or_past (bits_from words 0 size) i false
      (omega (arith, length-bits_from words 0 size)) in
      let got = covers i has in
      cc)
]
