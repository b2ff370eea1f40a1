-- Laws of lists, of options and of truth values.
use Rattle.std.proofs.Common.{◌≡◌, ℕ, ◌+◌, ◌<◌, List, [], ◌∷◌, ◌++◌, Bool, true, false, refl, ap}
use Rattle.std.proofs.Common.{arith, ◌&&◌, ◌||◌, ◌⊎◌, inl, inr, zero, suc, length, Option, Some}
use Rattle.std.proofs.Common.{None, cond, ◌≤◌}
use Rattle.std.specs.Prelude.{slice_index_or, is_some}
use Rattle.std.specs.List.{All, AllPairs}
use Rattle.chem_model.specs.Each.{Each}

-- ---- truth values

pub true_both : (a b : Bool) → a ≡ true → b ≡ true → a && b ≡ true
true_both true b e f = f
true_both false b e f = cc

pub either_true : (a b : Bool) → a || b ≡ true → (a ≡ true) ⊎ (b ≡ true)
either_true true b e = inl refl
either_true false b e = inr e

pub or_assoc : (a b c : Bool) → a || (b || c) ≡ (a || b) || c
or_assoc true b c = refl
or_assoc false b c = refl

pub or_comm : (a b : Bool) → a || b ≡ b || a
or_comm true true = refl
or_comm true false = refl
or_comm false true = refl
or_comm false false = refl

-- a test that isn't true is false
pub is_false : (t : Bool) → (t ≡ true → ⊥) → t ≡ false
is_false true h = absurd (h refl)
is_false false h = refl

-- ---- counts

pub cond_above : (t : Bool) → 0 < cond t 1 0 → t ≡ true
cond_above true h = refl
cond_above false h = absurd (omega arith)

pub cond_most : (t : Bool) → cond t 1 0 ≤ 1
cond_most true = omega arith
cond_most false = omega arith

pub cond_either : (t u : Bool) → cond (t || u) 1 0 ≤ cond t 1 0 + cond u 1 0
cond_either true u = omega arith
cond_either false u = omega arith

pub zero_or_above : (n : ℕ) → (n ≡ 0) ⊎ (0 < n)
zero_or_above zero = inl refl
zero_or_above (suc n) = inr (omega arith)

pub above : (m n : ℕ) → 0 < m + n → (0 < m) ⊎ (0 < n)
above m n h = grind arith

-- ---- options

pub has_some : {X : Type 0} (o : Option X) → is_some o ≡ true → (x : X) × (o ≡ Some x)
has_some None e = cc
has_some (Some x) e = (x, refl)

pub has_none : {X : Type 0} (o : Option X) → is_some o ≡ false → o ≡ None
has_none None e = refl
has_none (Some x) e = cc

-- ---- lists

pub append_nil : {X : Type 0} (xs : List X) → xs ++ [] ≡ xs
append_nil [] = refl
append_nil (x ∷ xs) = ap (λ ys. x ∷ ys) (append_nil xs)

pub Each-weaker : {X : Type 0} (P Q : X → Type 0) → ((x : X) → P x → Q x) → (xs : List X)
    → Each P xs → Each Q xs
Each-weaker P Q f [] h = tt
Each-weaker P Q f (x ∷ xs) h = (f x h.0, Each-weaker P Q f xs h.1)

pub Each-append : {X : Type 0} (P : X → Type 0) (xs ys : List X) → Each P xs → Each P ys
    → Each P (xs ++ ys)
Each-append P [] ys h g = g
Each-append P (x ∷ xs) ys h g = (h.0, Each-append P xs ys h.1 g)

pub Each-left : {X : Type 0} (P : X → Type 0) (xs ys : List X) → Each P (xs ++ ys) → Each P xs
Each-left P [] ys h = tt
Each-left P (x ∷ xs) ys h = (h.0, Each-left P xs ys h.1)

pub Each-right : {X : Type 0} (P : X → Type 0) (xs ys : List X) → Each P (xs ++ ys) → Each P ys
Each-right P [] ys h = h
Each-right P (x ∷ xs) ys h = Each-right P xs ys h.1

pub Each-all : {X : Type 0} (P : X → Type 0) → ((x : X) → P x) → (xs : List X) → Each P xs
Each-all P f [] = tt
Each-all P f (x ∷ xs) = (f x, Each-all P f xs)

-- ---- std's words for all members and all pairs of members, by recursion

pub all_each : {X : Type 0} (P : X → Type 0) (xs : List X) → All P xs → Each P xs
all_each P [] h = tt
all_each P (x ∷ xs) h = (h 0 x (omega arith), all_each P xs (λ k d lt. h (suc k) d (omega arith)))

pub each_all : {X : Type 0} (P : X → Type 0) (xs : List X) → Each P xs → All P xs
each_all P [] h = λ k d lt. absurd (omega arith)
each_all {X} P (x ∷ xs) h = go (each_all P xs h.1)
  where
    go : All P xs → (k : ℕ) (d : X) → k < length (x ∷ xs) → P (slice_index_or (x ∷ xs) k d)
    go rest zero d lt = h.0
    go rest (suc k) d lt = rest k d (omega arith)

-- each member with each later one
abbrev pub EachPair : {X : Type 0} → (X → X → Type 0) → List X → Type 0
EachPair R [] = Unit {0}
EachPair R (x ∷ xs) = Each (R x) xs × EachPair R xs

pub pairs_each : {X : Type 0} (R : X → X → Type 0) (xs : List X) → AllPairs R xs → EachPair R xs
pairs_each R [] h = tt
pairs_each R (x ∷ xs) h = (
  all_each (R x) xs (λ k d lt. h 0 (suc k) d (omega arith) (omega arith)),
  pairs_each R xs (λ i j d lt le. h (suc i) (suc j) d (omega arith) (omega arith)),
)
