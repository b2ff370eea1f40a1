-- In a map by number no number stands twice.
use Rattle.std.proofs.Common.{◌≡◌, ℕ, ◌+◌, ◌<◌, ◌≤◌, List, [], ◌∷◌, refl, ◌∙◌, subst, arith, ◌⊎◌}
use Rattle.std.proofs.Common.{inl, inr, Ordering, Less, Equal, Greater}
use Rattle.std.specs.List.{AllByRecursion}
use Rattle.std.specs.List.Sorted.{IsStrictlySortedBy}
use Rattle.std.specs.Map.{keys_of, values_of}
use Rattle.std.specs.Ordering.{nat_cmp, ordering_then, MatchOrdering}
use Rattle.std.specs.Cmp.{ranks}
use Rattle.chem_model.specs.declared.numbered.NumberedAtom.{NumberedAtom}
use Rattle.chem_model.specs.Bag.{one, bag, same_code}
use Rattle.chem_model.specs.NewNames.{Pair, coded_pair}
use Rattle.chem_model.specs.Numbered.{atom_pairs}
use Rattle.chem_laws.proofs.Bags.{one_is}
use Rattle.chem_laws.proofs.Lists.{zero_or_above, cond_most}
use Rattle.chem_commit.specs.inside.Differ.{AtomsDiffer}
use Rattle.book_store.specs.inside.Table.{AreKeyed}
use Rattle.book_store.proofs.TableLaws.{pair_cmp}

not_itself : (k : ℕ × ℕ) → pair_cmp k k ≡ Less → ⊥
not_itself k e = go (nat_cmp k.0 k.0) refl (nat_cmp k.1 k.1) refl e
  where
    less : (x : ℕ) → nat_cmp x x ≡ Less → ⊥
    less x c =
        let h : x < x =
        subst (λ (o : Ordering). MatchOrdering o (x < x) (x ≡ x) (x < x)) c (ranks x x) in
        omega arith

    go : (o : Ordering) → nat_cmp k.0 k.0 ≡ o → (p : Ordering) → nat_cmp k.1 k.1 ≡ p
        → ordering_then o p ≡ Less → ⊥
    go Less c p d f = less k.0 c
    go Equal c Less d f = less k.1 d
    go Equal c Equal d f = cc
    go Equal c Greater d f = cc
    go Greater c p d f = cc

pub one_most : (x p : Pair) → one coded_pair x p ≤ 1
unfolding one
one_most x p = cond_most (same_code (coded_pair.code x) (coded_pair.code p))

-- a key below all others stands among none of them
absent : (k : ℕ × ℕ) (es : List ((ℕ × ℕ) × NumberedAtom))
    → AllByRecursion (λ q. pair_cmp k q ≡ Less) (keys_of es) → AreKeyed es
    → bag coded_pair (atom_pairs (values_of es)) k ≡ 0
absent k [] a h = refl
absent k (e ∷ es) a h =
    go (zero_or_above (one coded_pair (e.1.id.site, e.1.id.k) k)) (absent k es a.1 h.1)
  where
    go :
        (one coded_pair (e.1.id.site, e.1.id.k) k ≡ 0)
        ⊎ (0 < one coded_pair (e.1.id.site, e.1.id.k) k)
        → bag coded_pair (atom_pairs (values_of es)) k ≡ 0
        → one coded_pair (e.1.id.site, e.1.id.k) k + bag coded_pair (atom_pairs (values_of es)) k
        ≡ 0
    go (inl z) ih = omega arith
    go (inr f) ih =
        let is : (e.1.id.site, e.1.id.k) ≡ k = one_is coded_pair (e.1.id.site, e.1.id.k) k f in
        let key : e.0 ≡ (e.1.id.site, e.1.id.k) = λ t. (h.0.0 t, h.0.1 t) in
        let same : e.0 ≡ k = key ∙ is in
        absurd (not_itself k (subst (λ (q : ℕ × ℕ). pair_cmp k q ≡ Less) same a.0))

pub different : (es : List ((ℕ × ℕ) × NumberedAtom)) → IsStrictlySortedBy pair_cmp (keys_of es)
    → AreKeyed es → AtomsDiffer (values_of es)
unfolding IsStrictlySortedBy
different [] s h p = omega arith
different (e ∷ es) s h p =
    go (zero_or_above (one coded_pair (e.1.id.site, e.1.id.k) p)) (different es s.1 h.1 p)
  where
    most : one coded_pair (e.1.id.site, e.1.id.k) p ≤ 1
    most = one_most (e.1.id.site, e.1.id.k) p

    go :
        (one coded_pair (e.1.id.site, e.1.id.k) p ≡ 0)
        ⊎ (0 < one coded_pair (e.1.id.site, e.1.id.k) p)
        → bag coded_pair (atom_pairs (values_of es)) p ≤ 1
        → one coded_pair (e.1.id.site, e.1.id.k) p + bag coded_pair (atom_pairs (values_of es)) p
        ≤ 1
    go (inl z) ih = omega arith
    go (inr f) ih =
        let is : (e.1.id.site, e.1.id.k) ≡ p = one_is coded_pair (e.1.id.site, e.1.id.k) p f in
        let key : e.0 ≡ (e.1.id.site, e.1.id.k) = λ t. (h.0.0 t, h.0.1 t) in
        let none : bag coded_pair (atom_pairs (values_of es)) p ≡ 0 =
        absent p es (subst (λ (q : ℕ × ℕ). AllByRecursion (λ j. pair_cmp q j ≡ Less) (keys_of es))
        (key ∙ is) s.0) h.1 in
        let low = most in
        omega arith
