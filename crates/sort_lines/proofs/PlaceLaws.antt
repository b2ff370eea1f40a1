-- Where a name stands first in a list.
use Rattle.std.proofs.Common.{◌≡◌, ℕ, ◌+◌, ◌<◌, List, [], ◌∷◌, ◌++◌, ◌==◌, length, Option, Some}
use Rattle.std.proofs.Common.{None, Bool, true, false, cond, refl, sym, ap, ◌∙◌, arith, inl, inr}
use Rattle.std.proofs.Common.{eqb-true, eq-eqb}
use Rattle.std.specs.Prelude.{is_some}
use Rattle.std.specs.List.{position_from}
use Rattle.std.specs.Str.{bytes_eq}
use Rattle.std.specs.Ordering.{nat_cmp}
use Rattle.std.specs.Cmp.Lexicographic.{slice_cmp}
use Rattle.std.specs.BTreeMap.{BTreeMap, UpdatesBy}
use Rattle.std.proofs.lemmas.Map.Text.{btree_map_updates_str}
use Rattle.std.proofs.lemmas.Slice.Eq.{bytes_eq-Decides}
use denote.Ref.{Bor}
use Rattle.chem_model.specs.Each.{IsIn}
use Rattle.sort_lines.specs.Faults.{first_place}
use Rattle.sort_lines.specs.inside.Places.{texts, KnowsPlaces}
use Rattle.sort_lines.specs.inside.Judging.{is_among, is_place}

pub texts-push : (xs : List (Bor (List ℕ))) (n : Bor (List ℕ))
    → texts (xs ++ n ∷ []) ≡ texts xs ++ n.now ∷ []
texts-push [] n = refl
texts-push (x ∷ xs) n = ap (λ l. x.now ∷ l) (texts-push xs n)

pub texts-length : (xs : List (Bor (List ℕ))) → length (texts xs) ≡ length xs
texts-length [] = refl
texts-length (x ∷ xs) = let rest = texts-length xs in omega arith

same_bytes : (xs ys : List ℕ) → bytes_eq xs ys ≡ bytes_eq ys xs
same_bytes xs ys = go (bytes_eq xs ys) refl (bytes_eq ys xs) refl
  where
    go : (u : Bool) → bytes_eq xs ys ≡ u → (v : Bool) → bytes_eq ys xs ≡ v → u ≡ v
    go true c true d = refl
    go true c false d =
        let clash : bytes_eq ys xs ≡ true =
        (bytes_eq-Decides ys xs).1 (sym ((bytes_eq-Decides xs ys).0 c)) in
        cc
    go false c true d =
        let clash : bytes_eq xs ys ≡ true =
        (bytes_eq-Decides xs ys).1 (sym ((bytes_eq-Decides ys xs).0 d)) in
        cc
    go false c false d = refl

-- ---- names in front and names behind

abbrev pub or_place : Option ℕ → Option ℕ → Option ℕ
or_place None o = o
or_place (Some i) o = Some i

place_behind : (f : List ℕ → Bool) (k : ℕ) (xs ys : List (List ℕ))
    → position_from f k (xs ++ ys)
    ≡ or_place (position_from f k xs) (position_from f (k + length xs) ys)
place_behind f k [] ys =
    let at : k ≡ k + length {A = List ℕ} [] = omega arith in
    ap (λ n. position_from f n ys) at
place_behind f k (x ∷ xs) ys = go (f x) (place_behind f (k + 1) xs ys)
  where
    go : (t : Bool)
        → position_from f (k + 1) (xs ++ ys)
        ≡ or_place (position_from f (k + 1) xs) (position_from f (k + 1 + length xs) ys)
        → cond t (Some k) (position_from f (k + 1) (xs ++ ys))
        ≡ or_place (cond t (Some k) (position_from f (k + 1) xs))
        (position_from f (k + length (x ∷ xs)) ys)
    go true ih = refl
    go false ih =
        let at : k + 1 + length xs ≡ k + length (x ∷ xs) = omega arith in
        ih ∙ ap (λ n. or_place (position_from f (k + 1) xs) (position_from f n ys)) at

-- one name more
one_more : (xs : List (List ℕ)) (b q : List ℕ)
    → first_place q (xs ++ b ∷ [])
    ≡ or_place (first_place q xs) (cond (bytes_eq b q) (Some (length xs)) None)
one_more xs b q =
    let at : 0 + length xs ≡ length xs = omega arith in
    place_behind (bytes_eq q) 0 xs (b ∷ [])
    ∙ (λ i. or_place (first_place q xs) (cond (same_bytes q b i) (Some (at i)) None))

-- a name that was there
pub known_again : (xs : List (List ℕ)) (b : List ℕ) → is_some (first_place b xs) ≡ true
    → (q : List ℕ) → first_place q (xs ++ b ∷ []) ≡ first_place q xs
known_again xs b e q = one_more xs b q
    ∙ go (first_place q xs) (bytes_eq b q)
    (λ f. ap (λ c. is_some (first_place c xs)) (sym ((bytes_eq-Decides b q).0 f)) ∙ e)
  where
    go : (o : Option ℕ) (t : Bool) → (t ≡ true → is_some o ≡ true)
        → or_place o (cond t (Some (length xs)) None) ≡ o
    go (Some i) t h = refl
    go None true h = let f = h refl in cc
    go None false h = refl

-- a name that is new
pub new_name : (xs : List (List ℕ)) (b : List ℕ) → is_some (first_place b xs) ≡ false → (q : List ℕ)
    → first_place q (xs ++ b ∷ []) ≡ cond (bytes_eq b q) (Some (length xs)) (first_place q xs)
new_name xs b e q = one_more xs b q
    ∙ go (first_place q xs) (bytes_eq b q)
    (λ f. ap (λ c. is_some (first_place c xs)) (sym ((bytes_eq-Decides b q).0 f)) ∙ e)
  where
    go : (o : Option ℕ) (t : Bool) → (t ≡ true → is_some o ≡ false)
        → or_place o (cond t (Some (length xs)) None) ≡ cond t (Some (length xs)) o
    go (Some i) true h = let f = h refl in cc
    go (Some i) false h = refl
    go None true h = refl
    go None false h = refl

-- ---- names that know their places

pub pushed : (old new : List (Bor (List ℕ))) (n : Bor (List ℕ)) (names : List (List ℕ))
    → texts old ≡ names → new ≡ old ++ n ∷ [] → texts new ≡ names ++ n.now ∷ []
pushed old new n names e f = ap texts f ∙ texts-push old n ∙ ap (λ l. l ++ n.now ∷ []) e

pub places_kept :
    (places : BTreeMap (Bor (List ℕ)) ℕ) (old new : List (Bor (List ℕ))) (n : Bor (List ℕ))
    → KnowsPlaces places (texts old) → is_among n.now (texts old) ≡ true → new ≡ old ++ n ∷ []
    → KnowsPlaces places (texts new)
places_kept places old new n h known f q = h q
    ∙ sym (ap (λ l. first_place q (texts l)) f ∙ ap (first_place q) (texts-push old n)
    ∙ known_again (texts old) n.now known q)

pub place_added :
    (before after : BTreeMap (Bor (List ℕ)) ℕ) (old new : List (Bor (List ℕ))) (n : Bor (List ℕ))
    (place : ℕ) → KnowsPlaces before (texts old) → is_among n.now (texts old) ≡ false
    → new ≡ old ++ n ∷ [] → place ≡ length old
    → UpdatesBy (λ x y. slice_cmp nat_cmp x.now y.now) (λ k. slice_cmp nat_cmp n.now k.now) before
    after (Some place) → KnowsPlaces after (texts new)
place_added before after old new n place h fresh f at updates q =
    btree_map_updates_str n.now before after (Some place) updates q
    ∙ (λ i. cond (bytes_eq n.now q) (Some ((at ∙ sym (texts-length old)) i)) (h q i))
    ∙ sym (ap (λ l. first_place q (texts l)) f ∙ ap (first_place q) (texts-push old n)
    ∙ new_name (texts old) n.now fresh q)

-- ---- among them

among_from : (k : ℕ) (q : List ℕ) (xs : List (List ℕ))
    → is_some (position_from (bytes_eq q) k xs) ≡ true → IsIn q xs
among_from k q [] e = let clash : false ≡ true = e in cc
among_from k q (x ∷ xs) e = go (bytes_eq q x) refl e (among_from (k + 1) q xs)
  where
    go : (t : Bool) → bytes_eq q x ≡ t
        → is_some (cond t (Some k) (position_from (bytes_eq q) (k + 1) xs)) ≡ true
        → (is_some (position_from (bytes_eq q) (k + 1) xs) ≡ true → IsIn q xs) → IsIn q (x ∷ xs)
    go true c f ih = inl ((bytes_eq-Decides q x).0 c)
    go false c f ih = inr (ih f)

from_among : (k : ℕ) (q : List ℕ) (xs : List (List ℕ)) → IsIn q xs
    → is_some (position_from (bytes_eq q) k xs) ≡ true
from_among k q [] h = absurd h
from_among k q (x ∷ xs) h = go (bytes_eq q x) refl h (from_among (k + 1) q xs)
  where
    go : (t : Bool) → bytes_eq q x ≡ t → IsIn q (x ∷ xs)
        → (IsIn q xs → is_some (position_from (bytes_eq q) (k + 1) xs) ≡ true)
        → is_some (cond t (Some k) (position_from (bytes_eq q) (k + 1) xs)) ≡ true
    go true c i ih = refl
    go false c (inl e) ih = let clash : bytes_eq q x ≡ true = (bytes_eq-Decides q x).1 e in cc
    go false c (inr i) ih = ih i

pub in_list : (q : List ℕ) (xs : List (List ℕ)) → is_among q xs ≡ true → IsIn q xs
in_list q xs e = among_from 0 q xs e

pub is_in_list : (q : List ℕ) (xs : List (List ℕ)) → IsIn q xs → is_among q xs ≡ true
is_in_list q xs h = from_among 0 q xs h

-- ---- a name at its own place

within_from : (k : ℕ) (f : List ℕ → Bool) (xs : List (List ℕ)) (i : ℕ)
    → position_from f k xs ≡ Some i → i < k + length xs
within_from k f [] i e = cc
within_from k f (x ∷ xs) i e = go (f x) (within_from (k + 1) f xs i) e
  where
    go : (t : Bool) → (position_from f (k + 1) xs ≡ Some i → i < (k + 1) + length xs)
        → cond t (Some k) (position_from f (k + 1) xs) ≡ Some i → i < k + length (x ∷ xs)
    go true ih e = let same : k ≡ i = cc in omega arith
    go false ih e = let below = ih e in omega arith

-- It stands there first exactly where it isn't among those before.
pub own_place : (q : List ℕ) (xs ys : List (List ℕ))
    → is_place (first_place q (xs ++ q ∷ ys)) (length xs) ≡ cond (is_among q xs) false true
own_place q xs ys = ap (λ o. is_place o (length xs)) (place_behind (bytes_eq q) 0 xs (q ∷ ys))
    ∙ go (first_place q xs) refl
  where
    here :
        cond (bytes_eq q q) (Some (0 + length xs))
        (position_from (bytes_eq q) (0 + length xs + 1) ys) ≡ Some (length xs)
    here =
        let at : 0 + length xs ≡ length xs = omega arith in
        ap (λ t. cond t (Some (0 + length xs)) (position_from (bytes_eq q) (0 + length xs + 1) ys))
        ((bytes_eq-Decides q q).1 refl) ∙ ap Some at

    apart : (i : ℕ) → i < length xs → i == length xs ≡ false
    apart i l = by (i == length xs) refl
      where
        by : (t : Bool) → i == length xs ≡ t → i == length xs ≡ false
        by true c = let same = eqb-true i (length xs) c in absurd (omega arith)
        by false c = c

    go : (o : Option ℕ) → first_place q xs ≡ o
        → is_place (or_place o (cond (bytes_eq q q) (Some (0 + length xs))
        (position_from (bytes_eq q) (0 + length xs + 1) ys))) (length xs)
        ≡ cond (is_some o) false true
    go None c = ap (λ o. is_place o (length xs)) here ∙ eq-eqb (length xs) (length xs) refl
    go (Some i) c = let below = within_from 0 (bytes_eq q) xs i c in apart i (omega arith)
