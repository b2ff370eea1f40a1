-- Lists by recursion: what is kept of each member and of each two, and how often a number stands in
-- a list.
use Rattle.std.proofs.Common.{◌≡◌, ℕ, zero, suc, ◌+◌, ◌<◌, ◌≤◌, List, [], ◌∷◌, ◌++◌, Bool, true}
use Rattle.std.proofs.Common.{false, cond, sym, ◌∙◌, subst, arith, map, ◌||◌, ◌==◌, ◌⊎◌}
use Rattle.std.proofs.lemmas.Bool.{or_parts}
use Rattle.std.specs.List.{AllPairs}
use Rattle.chem_model.specs.Each.{Each}
use Rattle.chem_model.specs.Binders.{is_among, times}
use Rattle.chem_laws.proofs.Lists.{either_true, each_all, EachPair, Each-left, Each-right}
use Rattle.chem_laws.proofs.Terms.{among-append, times-cons, times-append}

-- ---- each member, and each two members

pub each_both : {X : Type 0} (P Q : X → Type 0) (xs : List X) → Each P xs → Each Q xs
    → Each (λ x. P x × Q x) xs
each_both P Q [] h g = tt
each_both P Q (x ∷ xs) h g = ((h.0, g.0), each_both P Q xs h.1 g.1)

pub each_map : {X Y : Type 0} (f : X → Y) (P : Y → Type 0) (xs : List X) → Each (λ x. P (f x)) xs
    → Each P (map f xs)
each_map f P [] h = tt
each_map f P (x ∷ xs) h = (h.0, each_map f P xs h.1)

pub all_pairs : {X : Type 0} (R : X → X → Type 0) (xs : List X) → EachPair R xs → AllPairs R xs
all_pairs R [] h i j d lt within = absurd (omega arith)
all_pairs R (x ∷ xs) h zero zero d lt within = absurd (omega arith)
all_pairs R (x ∷ xs) h zero (suc j) d lt within = each_all (R x) xs h.0 j d (omega arith)
all_pairs R (x ∷ xs) h (suc i) zero d lt within = absurd (omega arith)
all_pairs R (x ∷ xs) h (suc i) (suc j) d lt within =
    all_pairs R xs h.1 i j d (omega arith) (omega arith)

pub pairs_left : {X : Type 0} (R : X → X → Type 0) (xs ys : List X) → EachPair R (xs ++ ys)
    → EachPair R xs
pairs_left R [] ys h = tt
pairs_left R (x ∷ xs) ys h = (Each-left (R x) xs ys h.0, pairs_left R xs ys h.1)

pub pairs_right : {X : Type 0} (R : X → X → Type 0) (xs ys : List X) → EachPair R (xs ++ ys)
    → EachPair R ys
pairs_right R [] ys h = h
pairs_right R (x ∷ xs) ys h = pairs_right R xs ys h.1

pub pairs_across : {X : Type 0} (R : X → X → Type 0) (xs ys : List X) → EachPair R (xs ++ ys)
    → Each (λ x. Each (R x) ys) xs
pairs_across R [] ys h = tt
pairs_across R (x ∷ xs) ys h = (Each-right (R x) xs ys h.0, pairs_across R xs ys h.1)

pub pairs_map : {X Y : Type 0} (f : X → Y) (R : X → X → Type 0) (S : Y → Y → Type 0)
    → ((x y : X) → R x y → S (f x) (f y)) → (xs : List X) → EachPair R xs → EachPair S (map f xs)
pairs_map f R S g [] h = tt
pairs_map {X} f R S g (x ∷ xs) h = (each_map f (S (f x)) xs (one xs h.0), pairs_map f R S g xs h.1)
  where
    one : (ys : List X) → Each (R x) ys → Each (λ y. S (f x) (f y)) ys
    one [] k = tt
    one (y ∷ ys) k = (g x y k.0, one ys k.1)

-- ---- how often a number stands in a list

pub among_times : (xs : List ℕ) (b : ℕ) → is_among xs b ≡ true → 0 < times xs b
among_times [] b h = cc
among_times (c ∷ xs) b h =
    subst (λ (n : ℕ). 0 < n) (sym (times-cons c xs b)) (go (c == b) (among_times xs b) h)
  where
    go : (t : Bool) → (is_among xs b ≡ true → 0 < times xs b) → t || is_among xs b ≡ true
        → 0 < cond t 1 0 + times xs b
    go true ih e = omega arith
    go false ih e = let more = ih e in omega arith

pub among_either : (xs ys : List ℕ) (b : ℕ) → is_among (xs ++ ys) b ≡ true
    → (is_among xs b ≡ true) ⊎ (is_among ys b ≡ true)
among_either xs ys b h =
    either_true (is_among xs b) (is_among ys b) (sym (among-append xs ys b) ∙ h)

pub not_among : (xs ys : List ℕ) (b : ℕ) → is_among (xs ++ ys) b ≡ false
    → (is_among xs b ≡ false) × (is_among ys b ≡ false)
not_among xs ys b h = or_parts (is_among xs b) (is_among ys b) (sym (among-append xs ys b) ∙ h)

-- in two lists together that have each number once, a number of the one isn't in the other
pub once_apart : (xs ys : List ℕ) (b : ℕ) → times (xs ++ ys) b ≤ 1 → is_among xs b ≡ true
    → is_among ys b ≡ true → ⊥
once_apart xs ys b h e f =
    let x = among_times xs b e in
    let y = among_times ys b f in
    let both = times-append xs ys b in
    omega arith
