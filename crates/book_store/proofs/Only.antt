-- A key that is added is the only one that comes, and none comes where one goes.
use Rattle.std.proofs.Common.{◌≡◌, List, [], ◌∷◌, ◌⊎◌, inl, inr, Ordering, Less, Equal, Greater}
use Rattle.std.proofs.Common.{Bool, true, false, cond}
use Rattle.std.specs.Ordering.{match_ordering}
use Rattle.std.specs.Set.{remove_key}
use Rattle.std.specs.BTreeMap.{is_at}
use Rattle.std.specs.BTreeSet.{insert_key}
use Rattle.chem_model.specs.Each.{IsIn}
use Rattle.book_store.specs.Keys.{Key}
use Rattle.book_store.proofs.KeyLaws.{key_cmp}

pub only_added : (k : Key) (ks : List Key) (i : Key) → IsIn i (insert_key key_cmp ks k)
    → (i ≡ k) ⊎ IsIn i ks
only_added k [] i (inl e) = inl e
only_added k [] i (inr at) = absurd at
only_added k (j ∷ ks) i at = go (key_cmp k j) (only_added k ks i) at
  where
    later : (i ≡ k) ⊎ IsIn i ks → (i ≡ k) ⊎ ((i ≡ j) ⊎ IsIn i ks)
    later (inl e) = inl e
    later (inr g) = inr (inr g)

    go : (o : Ordering) → (IsIn i (insert_key key_cmp ks k) → (i ≡ k) ⊎ IsIn i ks)
        → IsIn i (match_ordering o (k ∷ j ∷ ks) (j ∷ ks) (j ∷ insert_key key_cmp ks k))
        → (i ≡ k) ⊎ ((i ≡ j) ⊎ IsIn i ks)
    go Less rest f = f
    go Equal rest f = inr f
    go Greater rest (inl e) = inr (inl e)
    go Greater rest (inr f) = later (rest f)

pub none_comes : (k : Key) (ks : List Key) (i : Key) → IsIn i (remove_key (is_at (key_cmp k)) ks)
    → IsIn i ks
none_comes k [] i at = absurd at
none_comes k (j ∷ ks) i at = go (is_at (key_cmp k) j) (none_comes k ks i) at
  where
    go : (t : Bool) → (IsIn i (remove_key (is_at (key_cmp k)) ks) → IsIn i ks)
        → IsIn i (cond t ks (j ∷ remove_key (is_at (key_cmp k)) ks)) → (i ≡ j) ⊎ IsIn i ks
    go true rest f = inr f
    go false rest (inl e) = inl e
    go false rest (inr f) = inr (rest f)
