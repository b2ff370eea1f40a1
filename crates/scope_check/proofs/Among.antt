-- Numbers among others.
use Rattle.std.proofs.Common.{◌≡◌, ℕ, ◌<◌, ◌≤◌, ◌⊎◌, inl, inr, Bool, true, false, cond, eqb, List}
use Rattle.std.proofs.Common.{[], ◌∷◌, ◌++◌, refl, arith}
use Rattle.std.proofs.lemmas.Bool.{or_cases, or_left, or_right, eqb-true, eq-eqb}
use Rattle.chem_model.specs.Binders.{is_among, once}

pub among-here : (bs : List ℕ) (b : ℕ) → is_among (b ∷ bs) b ≡ true
among-here bs b = or_left (eqb b b) (is_among bs b) (eq-eqb b b refl)

pub among-cons : (c : ℕ) (bs : List ℕ) (b : ℕ) → is_among (c ∷ bs) b ≡ true
    → (c ≡ b) ⊎ (is_among bs b ≡ true)
among-cons c bs b e =
    elim (or_cases (eqb c b) (is_among bs b) e) [ inl h ↦ inl (eqb-true c b h) | inr h ↦ inr h ]

pub among-front : (bs cs : List ℕ) (b : ℕ) → is_among bs b ≡ true → is_among (bs ++ cs) b ≡ true
among-front [] cs b e = cc
among-front (c ∷ bs) cs b e =
    elim (or_cases (eqb c b) (is_among bs b)
    e) [ inl h ↦ or_left _ _ h | inr h ↦ or_right _ _ (among-front bs cs b h) ]

pub among-back : (bs cs : List ℕ) (b : ℕ) → is_among cs b ≡ true → is_among (bs ++ cs) b ≡ true
among-back [] cs b e = e
among-back (c ∷ bs) cs b e = or_right (eqb c b) _ (among-back bs cs b e)

pub once-cases : (bs : List ℕ) (b : ℕ) → (once bs b ≤ 1) × (0 < once bs b → is_among bs b ≡ true)
once-cases bs b = by (is_among bs b)
  where
    by : (t : Bool) → (cond t 1 0 ≤ 1) × (0 < cond t 1 0 → t ≡ true)
    by true = (omega arith, λ h. refl)
    by false = (omega arith, λ h. absurd (omega arith))
