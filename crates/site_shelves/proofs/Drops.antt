-- Members of a list, and what is left of it from a place on.
use Rattle.std.proofs.Common.{◌≡◌, ℕ, zero, suc, ◌+◌, ◌<◌, ◌≤◌, length, drop, List, [], ◌∷◌, Some}
use Rattle.std.proofs.Common.{None, get_or, refl, sym, ap, arith}
use Rattle.std.specs.Prelude.{slice_get, slice_index_or}

pub slice_get-read : {X : Type 0} (xs : List X) (i : ℕ) (x : X) → i < length xs → x ≡ get_or xs i x
    → slice_get xs i ≡ Some x
slice_get-read [] i x within is = absurd (omega arith)
slice_get-read (y ∷ xs) zero x within is = ap Some (sym is)
slice_get-read (y ∷ xs) (suc i) x within is = slice_get-read xs i x (omega arith) is

pub slice_get-past : {X : Type 0} (xs : List X) (i : ℕ) → length xs ≤ i → slice_get xs i ≡ None
slice_get-past [] i past = refl
slice_get-past (y ∷ xs) zero past = absurd (omega arith)
slice_get-past (y ∷ xs) (suc i) past = slice_get-past xs i (omega arith)

pub drop-here : {X : Type 0} (xs : List X) (i : ℕ) (d : X) → i < length xs
    → drop i xs ≡ slice_index_or xs i d ∷ drop (i + 1) xs
drop-here [] i d within = absurd (omega arith)
drop-here (x ∷ xs) zero d within = refl
drop-here (x ∷ xs) (suc i) d within =
    let e : suc i + 1 ≡ suc (i + 1) = omega arith in
    rw e (drop-here xs i d (omega arith))

pub drop-get : {X : Type 0} (xs : List X) (i : ℕ) (x : X) → slice_get xs i ≡ Some x
    → drop i xs ≡ x ∷ drop (i + 1) xs
drop-get [] i x is = absurd (cc)
drop-get (y ∷ xs) zero x is = let same : y ≡ x = cc in ap (λ z. z ∷ xs) same
drop-get (y ∷ xs) (suc i) x is =
    let e : suc i + 1 ≡ suc (i + 1) = omega arith in
    rw e (drop-get xs i x is)
