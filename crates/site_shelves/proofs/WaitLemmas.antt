-- Guards that wait on channels.
use Rattle.std.proofs.Common.{◌≡◌, ℕ, zero, suc, ◌<◌, Bool, true, false, List, [], ◌∷◌, ◌++◌}
use Rattle.std.proofs.Common.{length, Some, refl, sym, ap, ◌∙◌, arith, inl, inr, ◌⊎◌, eqb-true}
use Rattle.std.proofs.Common.{eq-eqb}
use Rattle.std.specs.Prelude.{slice_get, slice_set, slice_index_or, ◌==◌, ◌||◌}
use Rattle.std.proofs.lemmas.Bool.{cases_eq}
use Rattle.chem_model.specs.Binders.{is_among}
use Rattle.status_words.specs.Words.{has_bit}
use Rattle.site_shelves.specs.inside.Waits.{AreWaiting, KeepsWaits, WaitsOn}

-- ---- one channel

among-last : (ns : List ℕ) (n : ℕ) → is_among (ns ++ n ∷ []) n ≡ true
among-last [] n = ap (λ t. t || false) (eq-eqb n n refl)
among-last (x ∷ ns) n = go (x == n) (among-last ns n)
  where
    go : (t : Bool) → is_among (ns ++ n ∷ []) n ≡ true
        → t || is_among (ns ++ n ∷ []) n ≡ true
    go true rest = refl
    go false rest = rest

among-more : (ns : List ℕ) (n i : ℕ) → is_among ns i ≡ true → is_among (ns ++ n ∷ []) i ≡ true
among-more [] n i e = cc
among-more (x ∷ ns) n i e = go (x == i) e (among-more ns n i)
  where
    go : (t : Bool) → t || is_among ns i ≡ true
        → (is_among ns i ≡ true → is_among (ns ++ n ∷ []) i ≡ true)
        → t || is_among (ns ++ n ∷ []) i ≡ true
    go true e rest = refl
    go false e rest = rest e

wait-at : (waits : List (List ℕ)) (c : ℕ) (ns : List ℕ) → c < length waits
    → slice_index_or (slice_set waits c ns) c [] ≡ ns
wait-at [] c ns within = absurd (omega arith)
wait-at (w ∷ waits) zero ns within = refl
wait-at (w ∷ waits) (suc c) ns within = wait-at waits c ns (omega arith)

wait-other : (waits : List (List ℕ)) (c d : ℕ) (ns : List ℕ) → (d ≡ c → ⊥)
    → slice_index_or (slice_set waits c ns) d [] ≡ slice_index_or waits d []
wait-other [] c d ns other = refl
wait-other (w ∷ waits) zero zero ns other = absurd (other refl)
wait-other (w ∷ waits) zero (suc d) ns other = refl
wait-other (w ∷ waits) (suc c) zero ns other = refl
wait-other (w ∷ waits) (suc c) (suc d) ns other =
    wait-other waits c d ns (λ e. other (ap suc e))

pub waits-here : (waits : List (List ℕ)) (c n : ℕ) → c < length waits
    → is_among (slice_index_or (slice_set waits c (slice_index_or waits c [] ++ n ∷ [])) c []) n
    ≡ true
waits-here waits c n within =
    ap (λ ns. is_among ns n) (wait-at waits c (slice_index_or waits c [] ++ n ∷ []) within)
    ∙ among-last (slice_index_or waits c []) n

pub waits-kept : (waits : List (List ℕ)) (c n : ℕ) → c < length waits
    → KeepsWaits waits (slice_set waits c (slice_index_or waits c [] ++ n ∷ []))
waits-kept waits c n within d i e =
    let more = slice_index_or waits c [] ++ n ∷ [] in
    elim (cases_eq d c) [
      | inl same ↦
          let is : slice_index_or (slice_set waits c more) d [] ≡ more =
          ap (λ k. slice_index_or (slice_set waits c more) k []) same
          ∙ wait-at waits c more within in
          ap (λ ns. is_among ns i) is
          ∙ among-more (slice_index_or waits c []) n i
          (ap (λ k. is_among (slice_index_or waits k []) i) (sym same) ∙ e)
      | inr other ↦ ap (λ ns. is_among ns i) (wait-other waits c d more other) ∙ e
    ]

pub waits-same : (waits : List (List ℕ)) (c : ℕ) → c < length waits
    → slice_set waits c (slice_index_or waits c []) ≡ waits
waits-same [] c within = absurd (omega arith)
waits-same (w ∷ waits) zero within = refl
waits-same (w ∷ waits) (suc c) within = ap (λ ws. w ∷ ws) (waits-same waits c (omega arith))

-- ---- one channel after another

abbrev pub WaitsYet : List (List ℕ) → ℕ → List ℕ → List ℕ → Type 0
WaitsYet waits n cs left =
    (c : ℕ) → is_among cs c ≡ true
    → (is_among (slice_index_or waits c []) n ≡ true) ⊎ (is_among left c ≡ true)

pub waits-next : (waits new : List (List ℕ)) (n : ℕ) (cs left rest : List ℕ) (d : ℕ)
    → left ≡ d ∷ rest → WaitsYet waits n cs left → KeepsWaits waits new
    → is_among (slice_index_or new d []) n ≡ true → WaitsYet new n cs rest
waits-next waits new n cs left rest d split yet kept here c e = elim (yet c e) [
  | inl was ↦ inl (kept c n was)
  | inr later ↦ go (d == c) refl (ap (λ js. is_among js c) (sym split) ∙ later)
]
  where
    go : (t : Bool) → (d == c) ≡ t → (d == c) || is_among rest c ≡ true
        → (is_among (slice_index_or new c []) n ≡ true) ⊎ (is_among rest c ≡ true)
    go true same f =
        inl (ap (λ k. is_among (slice_index_or new k []) n) (sym (eqb-true d c same)) ∙ here)
    go false same f = inr (ap (λ t. t || is_among rest c) (sym same) ∙ f)

pub waits-all : (waits : List (List ℕ)) (n : ℕ) (cs left : List ℕ) → left ≡ []
    → WaitsYet waits n cs left → WaitsOn waits n cs
waits-all waits n cs left none yet c e = elim (yet c e) [
  | inl was ↦ was
  | inr later ↦
      let clash : false ≡ true = ap (λ js. is_among js c) (sym none) ∙ later in
      absurd (cc)
]

-- ---- one guard more

last-or : (masks : List (List ℕ)) (mask : List ℕ) (i : ℕ) (m : List ℕ)
    → slice_get (masks ++ mask ∷ []) i ≡ Some m
    → (slice_get masks i ≡ Some m) ⊎ ((i ≡ length masks) × (mask ≡ m))
last-or [] mask zero m at = let same : mask ≡ m = cc in inr (refl, same)
last-or [] mask (suc i) m at = absurd (cc)
last-or (x ∷ masks) mask zero m at = inl at
last-or (x ∷ masks) mask (suc i) m at = elim (last-or masks mask i m at) [
  | inl was ↦ inl was
  | inr new ↦ inr (ap suc new.0, new.1)
]

pub waiting-kept : (masks waits new : List (List ℕ)) → KeepsWaits waits new
    → AreWaiting masks waits → AreWaiting masks new
waiting-kept masks waits new kept are i m c at has = kept c i (are i m c at has)

pub waiting-more : (masks waits : List (List ℕ)) (mask cs : List ℕ)
    → AreWaiting masks waits → WaitsOn waits (length masks) cs
    → ((c : ℕ) → has_bit mask c ≡ true → is_among cs c ≡ true)
    → AreWaiting (masks ++ mask ∷ []) waits
waiting-more masks waits mask cs are on own i m c at has = elim (last-or masks mask i m at) [
  | inl was ↦ are i m c was has
  | inr new ↦
      let there : is_among (slice_index_or waits c []) (length masks) ≡ true =
      on c (own c (ap (λ w. has_bit w c) new.1 ∙ has)) in
      ap (is_among (slice_index_or waits c [])) new.0 ∙ there
]
