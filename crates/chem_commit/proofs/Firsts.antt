-- Lists whose first members are changed one after another, and what is taken out of the first ones.
use Rattle.std.proofs.Common.{◌≡◌, ◌<◌, ◌≤◌, ℕ, zero, suc, ◌+◌, ◌-◌, List, [], ◌∷◌, ◌++◌, length}
use Rattle.std.proofs.Common.{map, take, drop, set, get_or, refl, ap, sym, ◌∙◌, subst, arith, Bool}
use Rattle.std.proofs.Common.{true, false, cond}
use Rattle.std.specs.Prelude.{Some, None}
use Rattle.std.proofs.lemmas.List.{take-append-drop, length-take-le}
use Rattle.chem_model.specs.declared.name.Loc.{Loc}
use Rattle.chem_model.specs.declared.event.AtomId.{AtomId}
use Rattle.chem_model.specs.declared.numbered.Placed.{Placed}
use Rattle.chem_model.specs.declared.numbered.NumberedAtom.{NumberedAtom}
use Rattle.chem_model.specs.Apply.{same_atom, without, with_hosts, with_marks}
use Rattle.chem_commit.specs.inside.Parts.{place_from, hosted, marked}

-- ---- a list changed member by member

module _ {X : Type 0} (f : X → X) where
  -- the first k members are changed
  abbrev pub so_far : ℕ → List X → List X
  so_far k xs = map f (take k xs) ++ drop k xs

  changed : (xs : List X) (k : ℕ) (x : X) → k < length (so_far k xs) → x ≡ get_or (so_far k xs) k x
      → set (so_far k xs) k (f x) ≡ so_far (suc k) xs
  changed [] zero x h e = absurd (omega arith)
  changed [] (suc k) x h e = absurd (omega arith)
  changed (y ∷ ys) zero x h e = ap (λ z. f z ∷ ys) e
  changed (y ∷ ys) (suc k) x h e = ap (λ rest. f y ∷ rest) (changed ys k x (omega arith) e)

  past : (xs : List X) (k : ℕ) → length (so_far k xs) ≤ k → so_far k xs ≡ so_far (suc k) xs
  past [] zero h = refl
  past [] (suc k) h = refl
  past (y ∷ ys) zero h = absurd (omega arith)
  past (y ∷ ys) (suc k) h = ap (λ rest. f y ∷ rest) (past ys k (omega arith))

  pub changed_next : (xs ys zs : List X) (k : ℕ) (x y : X) → ys ≡ so_far k xs → zs ≡ ys
      → k < length zs → x ≡ get_or zs k x → y ≡ f x → set ys k y ≡ so_far (k + 1) xs
  changed_next xs ys zs k x y is same h e to =
      let all = same ∙ is in
      let at : x ≡ get_or (so_far k xs) k x = subst (λ (l : List X). x ≡ get_or l k x) all e in
      let next : suc k ≡ k + 1 = omega arith in
      ap (λ (l : List X). set l k y) is ∙ ap (set (so_far k xs) k) to
      ∙ changed xs k x (subst (λ (l : List X). k < length l) all h) at ∙ ap (λ n. so_far n xs) next

  pub past_next : (xs ys zs : List X) (k : ℕ) → ys ≡ so_far k xs → zs ≡ ys → length zs ≤ k
      → ys ≡ so_far (k + 1) xs
  past_next xs ys zs k is same h =
      let next : suc k ≡ k + 1 = omega arith in
      is ∙ past xs k (subst (λ (l : List X). length l ≤ k) (same ∙ is) h)
      ∙ ap (λ n. so_far n xs) next

pub with_hosts_map : (a h : Loc) (ps : List Placed) → map (hosted a h) ps ≡ with_hosts a h ps
with_hosts_map a h [] = refl
with_hosts_map a h (p ∷ ps) = ap (λ rest. hosted a h p ∷ rest) (with_hosts_map a h ps)

pub with_marks_map : (a : Loc) (ps : List Placed) → map (marked a) ps ≡ with_marks a ps
with_marks_map a [] = refl
with_marks_map a (p ∷ ps) = ap (λ rest. marked a p ∷ rest) (with_marks_map a ps)

-- ---- what is taken out

-- a place isn't before the first one
not_before : (i : AtomId) (xs : List NumberedAtom) (k j : ℕ) → place_from i k xs ≡ Some j → k ≤ j
not_before i [] k j e = cc
not_before i (a ∷ others) k j e = go (same_atom a.id i) (not_before i others (k + 1) j) e
  where
    go : (t : Bool) → (place_from i (k + 1) others ≡ Some j → k + 1 ≤ j)
        → cond t (Some k) (place_from i (k + 1) others) ≡ Some j → k ≤ j
    go true later c = let same : k ≡ j = cc in omega (arith, same)
    go false later c = let after = later c in omega (arith, after)

-- what is left, and how much of it was among the first n
abbrev Taken : AtomId → List NumberedAtom → ℕ → ℕ → Type 0
Taken i xs m n = (n - 1 ≡ length (without i (take n xs)))
    × (take m xs ++ drop (suc m) xs ≡ without i (take n xs) ++ drop n xs)

taken_out : (i : AtomId) (xs : List NumberedAtom) (k j n : ℕ) → place_from i k xs ≡ Some j
    → j < k + n → n ≤ length xs → Taken i xs (j - k) n
taken_out i [] k j n e h low = cc
taken_out i (a ∷ others) k j zero e h low =
    let least = not_before i (a ∷ others) k j e in
    absurd (omega (arith, least))
taken_out i (a ∷ others) k j (suc n) e h low =
    let both =
    go (same_atom a.id i) (not_before i others (k + 1) j) (taken_out i others (k + 1) j n) e in
    (omega (arith, both.0), both.1)
  where
    go : (t : Bool) → (place_from i (k + 1) others ≡ Some j → k + 1 ≤ j)
        → (place_from i (k + 1) others ≡ Some j → j < k + 1 + n → n ≤ length others
        → Taken i others (j - (k + 1)) n)
        → cond t (Some k) (place_from i (k + 1) others) ≡ Some j
        → (n ≡ length (cond t (take n others) (a ∷ without i (take n others))))
        × (take (j - k) (a ∷ others) ++ drop (suc (j - k)) (a ∷ others)
        ≡ cond t (take n others) (a ∷ without i (take n others)) ++ drop n others)
    go true later rest c =
        let same : k ≡ j = cc in
        let none : j - k ≡ 0 = omega (arith, same) in
        let many : length (take n others) ≡ n = length-take-le n others (omega arith) in
        (sym many, rw none (sym (take-append-drop n others)))
    go false later rest c =
        let after = later c in
        let one : j - k ≡ suc (j - (k + 1)) = omega (arith, after) in
        let left = rest c (omega arith) (omega arith) in
        (omega (arith, left.0, after), rw one (ap (λ (l : List NumberedAtom). a ∷ l) left.1))

-- an atom that isn't among the first n is not taken out of them
none_out : (i : AtomId) (xs : List NumberedAtom) (k n : ℕ)
    → ((j : ℕ) → place_from i k xs ≡ Some j → k + n ≤ j) → without i (take n xs) ≡ take n xs
none_out i [] k zero h = refl
none_out i [] k (suc n) h = refl
none_out i (a ∷ others) k zero h = refl
none_out i (a ∷ others) k (suc n) h = go (same_atom a.id i) (none_out i others (k + 1) n) h
  where
    go : (t : Bool)
        → (((j : ℕ) → place_from i (k + 1) others ≡ Some j → k + 1 + n ≤ j)
        → without i (take n others) ≡ take n others)
        → ((j : ℕ) → cond t (Some k) (place_from i (k + 1) others) ≡ Some j → k + suc n ≤ j)
        → cond t (take n others) (a ∷ without i (take n others)) ≡ a ∷ take n others
    go true rest g = let over = g k refl in absurd (omega (arith, over))
    go false rest g = ap (λ (l : List NumberedAtom). a ∷ l)
        (rest (λ j e. let over = g j e in omega (arith, over)))

pub one_out : (i : AtomId) (xs : List NumberedAtom) (j n : ℕ) → Some j ≡ place_from i 0 xs → j < n
    → n ≤ length xs
    → (n - 1 ≡ length (without i (take n xs)))
    × (take j xs ++ drop (j + 1) xs ≡ without i (take n xs) ++ drop n xs)
one_out i xs j n e h low =
    let same : j - 0 ≡ j = omega arith in
    let next : suc j ≡ j + 1 = omega arith in
    let both = subst (λ m. Taken i xs m n) same (taken_out i xs 0 j n (sym e) (omega arith) low) in
    (both.0, subst (λ m. take j xs ++ drop m xs ≡ without i (take n xs) ++ drop n xs) next both.1)

all_stay : (i : AtomId) (xs : List NumberedAtom) (n : ℕ) → n ≤ length xs
    → without i (take n xs) ≡ take n xs
    → (n ≡ length (without i (take n xs))) × (xs ≡ without i (take n xs) ++ drop n xs)
all_stay i xs n low e = (
  sym (length-take-le n xs low) ∙ ap length (sym e),
  sym (take-append-drop n xs) ∙ ap (λ (l : List NumberedAtom). l ++ drop n xs) (sym e),
)

pub later_stays : (i : AtomId) (xs : List NumberedAtom) (j n : ℕ) → Some j ≡ place_from i 0 xs
    → n ≤ j → n ≤ length xs
    → (n ≡ length (without i (take n xs))) × (xs ≡ without i (take n xs) ++ drop n xs)
later_stays i xs j n e h low =
    all_stay i xs n low (none_out i xs 0 n (λ m is. let same : m ≡ j = cc in omega (arith, same)))

pub none_stays : (i : AtomId) (xs : List NumberedAtom) (n : ℕ) → None ≡ place_from i 0 xs
    → n ≤ length xs
    → (n ≡ length (without i (take n xs))) × (xs ≡ without i (take n xs) ++ drop n xs)
none_stays i xs n e low = all_stay i xs n low (none_out i xs 0 n (λ m is. cc))
