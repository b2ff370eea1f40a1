-- The first places of a list's members, with one member more or less at the end.
use Rattle.std.proofs.Common.{◌≡◌, ℕ, zero, suc, ◌+◌, ◌<◌, List, [], ◌∷◌, ◌++◌, ◌==◌, ◌||◌, length}
use Rattle.std.proofs.Common.{take, Option, Some, None, Bool, true, false, cond, refl, sym, ap, ◌∙◌}
use Rattle.std.proofs.Common.{arith, eq-eqb, eqb-true, length-take}
use Rattle.std.specs.Prelude.{slice_get, is_some, nat_eq}
use Rattle.std.specs.Option.{option_eq}
use Rattle.chem_model.specs.Binders.{is_among}
use Rattle.chem_model.specs.declared.name.Name.{Name}
use Rattle.chem_model.specs.Fill.{Naming, name_at}
use Rattle.chem_laws.proofs.Terms.{or_name, name_at-append}
use Rattle.env_store.specs.Reading.{position_from, position}

-- ---- one more

abbrev or_place : Option ℕ → Option ℕ → Option ℕ
or_place None o = o
or_place (Some i) o = Some i

one_more_from : (k : ℕ) (xs : List ℕ) (b q : ℕ)
    → position_from k (xs ++ b ∷ []) q
    ≡ or_place (position_from k xs q) (cond (b == q) (Some (k + length xs)) None)
one_more_from k [] b q =
    let at : k ≡ k + length {A = ℕ} [] = omega arith in
    ap (λ (n : ℕ). cond (b == q) (Some n) None) at
one_more_from k (x ∷ xs) b q = go (x == q) (one_more_from (k + 1) xs b q)
  where
    go : (t : Bool)
        → position_from (k + 1) (xs ++ b ∷ []) q
        ≡ or_place (position_from (k + 1) xs q) (cond (b == q) (Some ((k + 1) + length xs)) None)
        → cond t (Some k) (position_from (k + 1) (xs ++ b ∷ []) q)
        ≡ or_place (cond t (Some k) (position_from (k + 1) xs q))
        (cond (b == q) (Some (k + length (x ∷ xs))) None)
    go true ih = refl
    go false ih =
        let at : (k + 1) + length xs ≡ k + length (x ∷ xs) = omega arith in
        ih ∙ ap (λ (n : ℕ). or_place (position_from (k + 1) xs q) (cond (b == q) (Some n) None)) at

one_more : (xs : List ℕ) (b q : ℕ)
    → position (xs ++ b ∷ []) q ≡ or_place (position xs q) (cond (b == q) (Some (length xs)) None)
one_more xs b q =
    let at : 0 + length xs ≡ length xs = omega arith in
    one_more_from 0 xs b q
    ∙ ap (λ (n : ℕ). or_place (position xs q) (cond (b == q) (Some n) None)) at

-- a member that was there
pub known_again : (xs : List ℕ) (b : ℕ) → is_some (position xs b) ≡ true → (q : ℕ)
    → position (xs ++ b ∷ []) q ≡ position xs q
known_again xs b e q = one_more xs b q
    ∙ go (position xs q) (b == q)
    (λ f. ap (λ c. is_some (position xs c)) (sym (eqb-true b q f)) ∙ e)
  where
    go : (o : Option ℕ) (t : Bool) → (t ≡ true → is_some o ≡ true)
        → or_place o (cond t (Some (length xs)) None) ≡ o
    go (Some i) t h = refl
    go None true h = let f = h refl in cc
    go None false h = refl

-- a member that is new
pub new_member : (xs : List ℕ) (b : ℕ) → is_some (position xs b) ≡ false → (q : ℕ)
    → position (xs ++ b ∷ []) q ≡ cond (b == q) (Some (length xs)) (position xs q)
new_member xs b e q = one_more xs b q
    ∙ go (position xs q) (b == q)
    (λ f. ap (λ c. is_some (position xs c)) (sym (eqb-true b q f)) ∙ e)
  where
    go : (o : Option ℕ) (t : Bool) → (t ≡ true → is_some o ≡ false)
        → or_place o (cond t (Some (length xs)) None) ≡ cond t (Some (length xs)) o
    go (Some i) true h = let f = h refl in cc
    go (Some i) false h = refl
    go None true h = refl
    go None false h = refl

-- ---- one less

split_last : (xs : List ℕ) (k b : ℕ) → length xs ≡ suc k → slice_get xs k ≡ Some b
    → xs ≡ take k xs ++ b ∷ []
split_last [] k b e f = absurd (omega arith)
split_last (x ∷ []) zero b e f = let same : x ≡ b = cc in ap (λ c. c ∷ []) same
split_last (x ∷ []) (suc k) b e f = absurd (omega arith)
split_last (x ∷ y ∷ xs) zero b e f = absurd (omega arith)
split_last (x ∷ y ∷ xs) (suc k) b e f = ap (λ ys. x ∷ ys) (split_last (y ∷ xs) k b (omega arith) f)

within_from : (k : ℕ) (xs : List ℕ) (b i : ℕ) → position_from k xs b ≡ Some i → i < k + length xs
within_from k [] b i e = cc
within_from k (x ∷ xs) b i e = go (x == b) (within_from (k + 1) xs b i) e
  where
    go : (t : Bool) → (position_from (k + 1) xs b ≡ Some i → i < (k + 1) + length xs)
        → cond t (Some k) (position_from (k + 1) xs b) ≡ Some i → i < k + length (x ∷ xs)
    go true ih f = let same : k ≡ i = cc in omega arith
    go false ih f = let below = ih f in omega arith

-- the last member, where it stands nowhere before
last_is_first : (xs : List ℕ) (b : ℕ) → position (xs ++ b ∷ []) b ≡ Some (length xs) → (q : ℕ)
    → position xs q ≡ cond (b == q) None (position (xs ++ b ∷ []) q)
last_is_first xs b e q = go (b == q) refl
  where
    none_before : (o : Option ℕ) → ((i : ℕ) → o ≡ Some i → i < length xs)
        → or_place o (cond (b == b) (Some (length xs)) None) ≡ Some (length xs) → o ≡ None
    none_before None h f = refl
    none_before (Some i) h f =
        let same : i ≡ length xs = cc in
        let below = h i refl in
        absurd (omega arith)

    gone : position xs b ≡ None
    gone = none_before (position xs b) (λ i f. let below = within_from 0 xs b i f in omega arith)
        (sym (one_more xs b b) ∙ e)

    go : (t : Bool) → (b == q) ≡ t → position xs q ≡ cond t None (position (xs ++ b ∷ []) q)
    go true f = ap (position xs) (sym (eqb-true b q f)) ∙ gone
    go false f =
        sym (one_more xs b q ∙ ap (λ t. or_place (position xs q) (cond t (Some (length xs)) None)) f
        ∙ or_none (position xs q))
      where
        or_none : (o : Option ℕ) → or_place o None ≡ o
        or_none None = refl
        or_none (Some i) = refl

-- the last member, where it stands before too
last_is_again : (xs : List ℕ) (b : ℕ) → (position (xs ++ b ∷ []) b ≡ Some (length xs) → ⊥) → (q : ℕ)
    → position xs q ≡ position (xs ++ b ∷ []) q
last_is_again xs b e q = sym (known_again xs b (go (position xs b) refl) q)
  where
    go : (o : Option ℕ) → position xs b ≡ o → is_some (position xs b) ≡ true
    go (Some i) f = ap is_some f
    go None f =
        absurd (e (one_more xs b b ∙ ap (λ o. or_place o (cond (b == b) (Some (length xs)) None)) f
        ∙ ap (λ t. cond t (Some (length xs)) None) (eq-eqb b b refl)))

-- the list without its last member
pub popped_first : (xs : List ℕ) (k b : ℕ) → length xs ≡ suc k → slice_get xs k ≡ Some b
    → position xs b ≡ Some k → (q : ℕ) → position (take k xs) q ≡ cond (b == q) None (position xs q)
popped_first xs k b e f g q =
    let split = split_last xs k b e f in
    let long : k ≡ length (take k xs) = omega (arith, length-take k xs) in
    let here : position (take k xs ++ b ∷ []) b ≡ Some (length (take k xs)) =
    ap (λ ys. position ys b) (sym split) ∙ g ∙ ap (λ (n : ℕ). Some n) long in
    last_is_first (take k xs) b here q ∙ ap (λ ys. cond (b == q) None (position ys q)) (sym split)

pub popped_again : (xs : List ℕ) (k b : ℕ) → length xs ≡ suc k → slice_get xs k ≡ Some b
    → (position xs b ≡ Some k → ⊥) → (q : ℕ) → position (take k xs) q ≡ position xs q
popped_again xs k b e f g q =
    let split = split_last xs k b e f in
    let long : length (take k xs) ≡ k = omega (arith, length-take k xs) in
    last_is_again (take k xs) b
    (λ h. g (ap (λ ys. position ys b) split ∙ h ∙ ap (λ (n : ℕ). Some n) long)) q
    ∙ ap (λ ys. position ys q) (sym split)

pub same_place : (o : Option ℕ) (k : ℕ) → option_eq nat_eq o (Some k) ≡ true → o ≡ Some k
same_place None k e = cc
same_place (Some i) k e = ap (λ (n : ℕ). Some n) (eqb-true i k e)

pub other_place : (o : Option ℕ) (k : ℕ) → option_eq nat_eq o (Some k) ≡ false → o ≡ Some k → ⊥
other_place o k e f =
    let g : nat_eq k k ≡ false = ap (λ p. option_eq nat_eq p (Some k)) (sym f) ∙ e in
    let h = eq-eqb k k refl in
    cc

-- ---- a binder is among the members where it has a place

pub among_placed : (k : ℕ) (xs : List ℕ) (b : ℕ) → is_some (position_from k xs b) ≡ is_among xs b
among_placed k [] b = refl
among_placed k (x ∷ xs) b = go (x == b) (among_placed (k + 1) xs b)
  where
    go : (t : Bool) → is_some (position_from (k + 1) xs b) ≡ is_among xs b
        → is_some (cond t (Some k) (position_from (k + 1) xs b)) ≡ t || is_among xs b
    go true ih = refl
    go false ih = ih

-- ---- names, with one entry more at the end

-- a binder that had a name
pub named_again : (m : Naming) (b : ℕ) (n : Name) → is_some (name_at m b) ≡ true → (q : ℕ)
    → name_at (m ++ record { binder = b; name = n } ∷ []) q ≡ name_at m q
named_again m b n e q = name_at-append m (record { binder = b; name = n } ∷ []) q
    ∙ go (name_at m q) (b == q) (λ f. ap (λ c. is_some (name_at m c)) (sym (eqb-true b q f)) ∙ e)
  where
    go : (o : Option Name) (t : Bool) → (t ≡ true → is_some o ≡ true)
        → or_name o (cond t (Some n) None) ≡ o
    go (Some x) t h = refl
    go None true h = let f = h refl in cc
    go None false h = refl

-- a binder that had none
pub new_name : (m : Naming) (b : ℕ) (n : Name) → is_some (name_at m b) ≡ false → (q : ℕ)
    → name_at (m ++ record { binder = b; name = n } ∷ []) q ≡ cond (b == q) (Some n) (name_at m q)
new_name m b n e q = name_at-append m (record { binder = b; name = n } ∷ []) q
    ∙ go (name_at m q) (b == q) (λ f. ap (λ c. is_some (name_at m c)) (sym (eqb-true b q f)) ∙ e)
  where
    go : (o : Option Name) (t : Bool) → (t ≡ true → is_some o ≡ false)
        → or_name o (cond t (Some n) None) ≡ cond t (Some n) o
    go (Some x) true h = let f = h refl in cc
    go (Some x) false h = refl
    go None true h = refl
    go None false h = refl
