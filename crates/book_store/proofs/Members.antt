-- Members of lists, by their places and of two lists together.
use Rattle.std.proofs.Common.{◌≡◌, ℕ, zero, suc, ◌<◌, length, get_or, List, [], ◌∷◌, ◌++◌, arith}
use Rattle.std.proofs.Common.{◌⊎◌, inl, inr}
use Rattle.chem_model.specs.Each.{IsIn}
use Rattle.book_store.specs.Watched.{IsAt}

pub at_in : {X : Type 0} (xs : List X) (i : ℕ) (x : X) → i < length xs → x ≡ get_or xs i x
    → IsIn x xs
at_in [] i x h e = absurd (omega arith)
at_in (y ∷ xs) zero x h e = inl e
at_in (y ∷ xs) (suc i) x h e = inr (at_in xs i x (omega arith) e)

pub in_at : {X : Type 0} (xs : List X) (x : X) → IsIn x xs → (j : ℕ) × IsAt xs j x
in_at [] x at = absurd at
in_at (y ∷ xs) x (inl e) = (0, (omega arith, e))
in_at (y ∷ xs) x (inr at) = let r = in_at xs x at in (suc r.0, (omega (arith, r.1.0), r.1.1))

pub in_first : {X : Type 0} (xs ys : List X) (x : X) → IsIn x xs → IsIn x (xs ++ ys)
in_first [] ys x at = absurd at
in_first (y ∷ xs) ys x (inl e) = inl e
in_first (y ∷ xs) ys x (inr at) = inr (in_first xs ys x at)

pub in_last : {X : Type 0} (xs ys : List X) (x : X) → IsIn x ys → IsIn x (xs ++ ys)
in_last [] ys x at = at
in_last (y ∷ xs) ys x at = inr (in_last xs ys x at)

pub in_either : {X : Type 0} (xs ys : List X) (x : X) → IsIn x (xs ++ ys) → IsIn x xs ⊎ IsIn x ys
in_either [] ys x at = inr at
in_either (y ∷ xs) ys x (inl e) = inl (inl e)
in_either (y ∷ xs) ys x (inr at) = go (in_either xs ys x at)
  where
    go : IsIn x xs ⊎ IsIn x ys → ((x ≡ y) ⊎ IsIn x xs) ⊎ IsIn x ys
    go (inl here) = inl (inr here)
    go (inr there) = inr there
