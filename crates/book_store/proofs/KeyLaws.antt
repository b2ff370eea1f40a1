-- Keys added to an ordered list of keys, and taken out.
use Rattle.std.proofs.Common.{◌≡◌, ℕ, ◌<◌, List, [], ◌∷◌, cond, refl, sym, ◌∙◌, subst, ◌⊎◌, inl}
use Rattle.std.proofs.Common.{inr, Ordering, Less, Equal, Greater}
use Rattle.std.specs.Ordering.{is_eq, nat_cmp, ordering_then, match_ordering, MatchOrdering}
use Rattle.std.specs.Cmp.{ranks}
use Rattle.std.specs.BTreeSet.{insert_key}
use Rattle.std.specs.BTreeMap.{is_at}
use Rattle.std.specs.Set.{remove_key}
use Rattle.chem_model.specs.Each.{IsIn}
use Rattle.book_store.specs.Keys.{Key, KeepsKeys}
use Rattle.book_store.proofs.TableLaws.{pair_cmp}

abbrev pub key_cmp : Key → Key → Ordering
key_cmp x y = ordering_then (nat_cmp x.0 y.0) (pair_cmp x.1 y.1)

equal_is : (x y : ℕ) → nat_cmp x y ≡ Equal → x ≡ y
equal_is x y e = subst (λ (o : Ordering). MatchOrdering o (x < y) (x ≡ y) (y < x)) e (ranks x y)

then_equal : (o p : Ordering) → ordering_then o p ≡ Equal → (o ≡ Equal) × (p ≡ Equal)
then_equal Less p e = cc
then_equal Equal p e = (refl, e)
then_equal Greater p e = cc

key_equal : (k j : Key) → key_cmp k j ≡ Equal → k ≡ j
key_equal k j e =
    let a = then_equal (nat_cmp k.0 j.0) (pair_cmp k.1 j.1) e in
    let b = then_equal (nat_cmp k.1.0 j.1.0) (nat_cmp k.1.1 j.1.1) a.1 in
    λ t. (equal_is k.0 j.0 a.0 t, (equal_is k.1.0 j.1.0 b.0 t, equal_is k.1.1 j.1.1 b.1 t))

pub added : (k : Key) (ks : List Key) → IsIn k (insert_key key_cmp ks k)
added k [] = inl refl
added k (j ∷ ks) = go (key_cmp k j) refl (added k ks)
  where
    go : (o : Ordering) → key_cmp k j ≡ o → IsIn k (insert_key key_cmp ks k)
        → IsIn k (match_ordering o (k ∷ j ∷ ks) (j ∷ ks) (j ∷ insert_key key_cmp ks k))
    go Less c ih = inl refl
    go Equal c ih = inl (key_equal k j c)
    go Greater c ih = inr ih

pub kept : (k : Key) (ks : List Key) → KeepsKeys ks (insert_key key_cmp ks k)
kept k [] i at = absurd at
kept k (j ∷ ks) i at = go (key_cmp k j) (kept k ks i) at
  where
    go : (o : Ordering) → (IsIn i ks → IsIn i (insert_key key_cmp ks k)) → (i ≡ j) ⊎ IsIn i ks
        → IsIn i (match_ordering o (k ∷ j ∷ ks) (j ∷ ks) (j ∷ insert_key key_cmp ks k))
    go Less rest f = inr f
    go Equal rest f = f
    go Greater rest (inl e) = inl e
    go Greater rest (inr f) = inr (rest f)

pub others_stay : (k : Key) (ks : List Key) (i : Key) → IsIn i ks
    → (i ≡ k) ⊎ IsIn i (remove_key (is_at (key_cmp k)) ks)
others_stay k [] i at = absurd at
others_stay k (j ∷ ks) i at = go (key_cmp k j) refl (others_stay k ks i) at
  where
    go : (o : Ordering) → key_cmp k j ≡ o
        → (IsIn i ks → (i ≡ k) ⊎ IsIn i (remove_key (is_at (key_cmp k)) ks)) → (i ≡ j) ⊎ IsIn i ks
        → (i ≡ k) ⊎ IsIn i (cond (is_eq o) ks (j ∷ remove_key (is_at (key_cmp k)) ks))
    go Equal c rest (inl e) = inl (e ∙ sym (key_equal k j c))
    go Equal c rest (inr f) = inr f
    go Less c rest (inl e) = inr (inl e)
    go Less c rest (inr f) = later (rest f)
      where
        later : (i ≡ k) ⊎ IsIn i (remove_key (is_at (key_cmp k)) ks)
            → (i ≡ k) ⊎ IsIn i (j ∷ remove_key (is_at (key_cmp k)) ks)
        later (inl e) = inl e
        later (inr g) = inr (inr g)
    go Greater c rest (inl e) = inr (inl e)
    go Greater c rest (inr f) = later (rest f)
      where
        later : (i ≡ k) ⊎ IsIn i (remove_key (is_at (key_cmp k)) ks)
            → (i ≡ k) ⊎ IsIn i (j ∷ remove_key (is_at (key_cmp k)) ks)
        later (inl e) = inl e
        later (inr g) = inr (inr g)
