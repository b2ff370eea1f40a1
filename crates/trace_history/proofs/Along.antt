-- Keys that are looked at one after another.
use Rattle.std.proofs.Common.{◌≡◌, List, [], ◌∷◌, ◌⊎◌, inl, inr, sym, subst}
use Rattle.chem_model.specs.Each.{IsIn}
use Rattle.book_store.specs.Keys.{Key}

pub one_along : (P Q : Key → Type 0) (keys left rest : List Key) (key : Key) → left ≡ key ∷ rest
    → ((k : Key) → P k → Q k) → Q key → ((k : Key) → IsIn k keys → P k ⊎ IsIn k left) → (k : Key)
    → IsIn k keys → Q k ⊎ IsIn k rest
one_along P Q keys left rest key e f q h k at = go (h k at)
  where
    step : (k ≡ key) ⊎ IsIn k rest → Q k ⊎ IsIn k rest
    step (inl same) = inl (subst Q (sym same) q)
    step (inr later) = inr later

    go : P k ⊎ IsIn k left → Q k ⊎ IsIn k rest
    go (inl p) = inl (f k p)
    go (inr there) = step (subst (λ (l : List Key). IsIn k l) e there)

pub all_along : (P : Key → Type 0) (keys left : List Key) → left ≡ []
    → ((k : Key) → IsIn k keys → P k ⊎ IsIn k left) → (k : Key) → IsIn k keys → P k
all_along P keys left e h k at = go (h k at)
  where
    go : P k ⊎ IsIn k left → P k
    go (inl p) = p
    go (inr there) = absurd (subst (λ (l : List Key). IsIn k l) e there)
