-- The fold over a list keeps the first of its members.
use Rattle.std.proofs.Common.{◌≡◌, ◌⊎◌, inl, inr, ℕ, ◌<◌, ◌≤◌, Bool, true, false, cond, List, []}
use Rattle.std.proofs.Common.{◌∷◌, ◌++◌, refl, sym, ◌∙◌, subst, arith, Option, Some, None, eqb, ltb}
use Rattle.std.proofs.Common.{◌&&◌, ◌||◌}
use Rattle.std.proofs.lemmas.Bool.Decides.{nat_tests}
use Rattle.chem_model.specs.Each.{IsIn}
use Rattle.scope_check.specs.declared.fault.Fault.{Fault}
use Rattle.scope_check.specs.Order.{rank, IsSooner, IsFirst}
use Rattle.scope_check.specs.inside.Order.{sooner, first_of}

-- in one list or the other
pub in-append : (f : Fault) (gs hs : List Fault) → IsIn f (gs ++ hs) → IsIn f gs ⊎ IsIn f hs
in-append f [] hs i = inr i
in-append f (g ∷ gs) hs (inl e) = inl (inl e)
in-append f (g ∷ gs) hs (inr i) = elim (in-append f gs hs i) [ inl a ↦ inl (inr a) | inr b ↦ inr b ]

pub in-left : (f : Fault) (gs hs : List Fault) → IsIn f gs → IsIn f (gs ++ hs)
in-left f [] hs i = absurd i
in-left f (g ∷ gs) hs (inl e) = inl e
in-left f (g ∷ gs) hs (inr i) = inr (in-left f gs hs i)

pub in-right : (f : Fault) (gs hs : List Fault) → IsIn f hs → IsIn f (gs ++ hs)
in-right f [] hs i = i
in-right f (g ∷ gs) hs i = inr (in-right f gs hs i)

sooner_refl : (f : Fault) → IsSooner f f
sooner_refl f = inr (refl, omega arith)

sooner_trans : (f g h : Fault) → IsSooner f g → IsSooner g h → IsSooner f h
sooner_trans f g h (inl a) (inl b) = inl (omega arith)
sooner_trans f g h (inl a) (inr b) = inl (omega (arith, b.0))
sooner_trans f g h (inr a) (inl b) = inl (omega (arith, a.0))
sooner_trans f g h (inr a) (inr b) = inr (omega (arith, a.0, b.0), omega (arith, a.1, b.1))

-- what one step keeps is one of the two, and sooner than both
sooner-step : (f g : Fault)
    → (h : Fault) × (sooner (Some f) g ≡ Some h) × ((h ≡ f) ⊎ (h ≡ g)) × IsSooner h f × IsSooner h g
sooner-step f g =
    by (ltb g.place f.place || (eqb g.place f.place && ltb (rank g.kind) (rank f.kind))) refl
  where
    by : (v : Bool)
        → (ltb g.place f.place || (eqb g.place f.place && ltb (rank g.kind) (rank f.kind))) ≡ v
        → (h : Fault) × (cond v (Some g) (Some f) ≡ Some h) × ((h ≡ f) ⊎ (h ≡ g)) × IsSooner h f
        × IsSooner h g
    by true e = (
      g,
      refl,
      inr refl,
      earlier (g.place) (f.place) (rank g.kind) (rank f.kind) e,
      sooner_refl g,
    )
      where
        earlier : (a b m n : ℕ) → (ltb a b || (eqb a b && ltb m n)) ≡ true
            → (a < b) ⊎ ((a ≡ b) × (m ≤ n))
        earlier a b m n e = grind (arith, nat_tests)
    by false e =
        (f, refl, inl refl, sooner_refl f, later (g.place) (f.place) (rank g.kind) (rank f.kind) e)
      where
        later : (a b m n : ℕ) → (ltb a b || (eqb a b && ltb m n)) ≡ false
            → (b < a) ⊎ ((b ≡ a) × (n ≤ m))
        later a b m n e = grind (arith, nat_tests)

-- the first of a fault that is kept and those of a list
abbrev IsKeptOf : Option Fault → List Fault → Fault → Type 0
IsKeptOf None gs f = IsIn f gs
IsKeptOf (Some k) gs f = (f ≡ k) ⊎ IsIn f gs

first-wider : (P Q : Fault → Type 0) (r : Option Fault) → IsFirst P r → ((f : Fault) → P f → Q f)
    → ((f : Fault) → Q f → (g : Fault) × P g × IsSooner g f) → IsFirst Q r
first-wider P Q None n sub cover = λ f q. let w = cover f q in n w.0 w.1
first-wider P Q (Some f) p sub cover =
    (sub f p.0, λ g q. let w = cover g q in sooner_trans f w.0 g (p.1 w.0 w.1) w.2)

first-is : (o : Option Fault) (gs : List Fault) → IsFirst (IsKeptOf o gs) (first_of o gs)
first-is None [] = λ f i. i
first-is (Some k) [] = (inl refl, λ g i. elim i [ inl e ↦ rw e (sooner_refl k) | inr n ↦ absurd n ])
first-is None (g ∷ gs) = first-is (Some g) gs
first-is (Some k) (g ∷ gs) = step (λ h. first-is (Some h) gs) (sooner-step k g)
  where
    sub : (h : Fault) → ((h ≡ k) ⊎ (h ≡ g)) → (f : Fault) → IsKeptOf (Some h) gs f
        → IsKeptOf (Some k) (g ∷ gs) f
    sub h (inl q) f (inl e) = inl (e ∙ q)
    sub h (inr q) f (inl e) = inr (inl (e ∙ q))
    sub h one f (inr i) = inr (inr i)

    cover : (h : Fault) → IsSooner h k → IsSooner h g → (f : Fault) → IsKeptOf (Some k) (g ∷ gs) f
        → (x : Fault) × IsKeptOf (Some h) gs x × IsSooner x f
    cover h a b f (inl e) = (h, inl refl, rw e a)
    cover h a b f (inr (inl e)) = (h, inl refl, rw e b)
    cover h a b f (inr (inr i)) = (f, inr i, sooner_refl f)

    step : ((h : Fault) → IsFirst (IsKeptOf (Some h) gs) (first_of (Some h) gs))
        → ((h : Fault) × (sooner (Some k) g ≡ Some h) × ((h ≡ k) ⊎ (h ≡ g)) × IsSooner h k
        × IsSooner h g) → IsFirst (IsKeptOf (Some k) (g ∷ gs)) (first_of (sooner (Some k) g) gs)
    step ih (h, e, one, a, b) = subst (λ o. IsFirst (IsKeptOf (Some k) (g ∷ gs)) (first_of o gs))
        (sym e) (first-wider _ _ _ (ih h) (sub h one) (cover h a b))

-- what the fold keeps is the first of any set with the list's members
pub first-of-set : (P : Fault → Type 0) (gs : List Fault) → ((f : Fault) → IsIn f gs → P f)
    → ((f : Fault) → P f → IsIn f gs) → IsFirst P (first_of None gs)
first-of-set P gs only all = first-wider (λ f. IsIn f gs) P (first_of None gs) (first-is None gs)
    only (λ f p. (f, all f p, sooner_refl f))
