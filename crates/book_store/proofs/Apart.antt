-- Messages that go from the newest to the older ones, and back: each number finds what it found, no
-- number stands twice, and each older one has its key.
use Rattle.std.proofs.Common.{◌≡◌, ℕ, zero, suc, ◌+◌, ◌<◌, List, [], ◌∷◌, ◌++◌, Option, Some, None}
use Rattle.std.proofs.Common.{Bool, true, false, cond, refl, ap, sym, ◌∙◌, subst, arith, inl, inr}
use Rattle.std.proofs.Common.{length, take, drop, get_or, ◌≤◌}
use Rattle.chem_model.specs.declared.event.AtomId.{AtomId}
use Rattle.chem_model.specs.declared.numbered.NumberedAtom.{NumberedAtom}
use Rattle.chem_model.specs.Bag.{one, bag}
use Rattle.chem_model.specs.NewNames.{Pair, coded_pair}
use Rattle.chem_model.specs.Numbered.{atom_pairs}
use Rattle.chem_model.specs.Each.{IsIn}
use Rattle.chem_model.specs.Apply.{same_atom, atom_at, without}
use Rattle.chem_laws.proofs.Taking.{same_atom_is, same_atom_refl, atom_pair_found}
use Rattle.book_store.specs.inside.Table.{Adds}
use Rattle.book_store.specs.Walk.{or_else}
use Rattle.book_store.specs.Older.{Keeps}
use Rattle.chem_commit.specs.inside.Differ.{AtomsDiffer}
use Rattle.book_store.proofs.ByNumber.{atom_has, member_found, found_in, atom_at-append}
use Rattle.book_store.proofs.ByNumber.{atom_at-without, differ-without}
use Rattle.book_store.proofs.Members.{at_in}

-- ---- pairs

pub pairs_both : (xs ys : List NumberedAtom) (p : Pair)
    → bag coded_pair (atom_pairs (xs ++ ys)) p
    ≡ bag coded_pair (atom_pairs xs) p + bag coded_pair (atom_pairs ys) p
pairs_both [] ys p = omega arith
pairs_both (a ∷ xs) ys p = omega (arith, pairs_both xs ys p)

pub differ_front : (xs ys : List NumberedAtom) → AtomsDiffer (xs ++ ys) → AtomsDiffer xs
differ_front xs ys d p = omega (arith, d p, pairs_both xs ys p)

pub differ_back : (xs ys : List NumberedAtom) → AtomsDiffer (xs ++ ys) → AtomsDiffer ys
differ_back xs ys d p = omega (arith, d p, pairs_both xs ys p)

-- what one part has the other hasn't
not_in_front : (xs ys : List NumberedAtom) (i : AtomId) (a : NumberedAtom) → AtomsDiffer (xs ++ ys)
    → atom_at ys i ≡ Some a → atom_at xs i ≡ None
not_in_front xs ys i a d e = go (atom_at xs i) refl
  where
    go : (o : Option NumberedAtom) → atom_at xs i ≡ o → o ≡ None
    go None c = refl
    go (Some b) c = absurd (omega (
      arith,
      d (i.site, i.k),
      pairs_both xs ys (i.site, i.k),
      atom_pair_found xs i b c,
      atom_pair_found ys i a e,
    ))

not_behind : (xs ys : List NumberedAtom) (i : AtomId) (a : NumberedAtom) → AtomsDiffer (xs ++ ys)
    → atom_at xs i ≡ Some a → atom_at ys i ≡ None
not_behind xs ys i a d e = go (atom_at ys i) refl
  where
    go : (o : Option NumberedAtom) → atom_at ys i ≡ o → o ≡ None
    go None c = refl
    go (Some b) c = absurd (omega (
      arith,
      d (i.site, i.k),
      pairs_both xs ys (i.site, i.k),
      atom_pair_found xs i a e,
      atom_pair_found ys i b c,
    ))

or_none : (o : Option NumberedAtom) → o ≡ or_else o None
or_none None = refl
or_none (Some a) = refl

-- ---- one that was taken out by its place

abbrev left : ℕ → List NumberedAtom → List NumberedAtom
left j xs = take j xs ++ drop (suc j) xs

pairs_left : (xs : List NumberedAtom) (j : ℕ) (a : NumberedAtom) (p : Pair) → j < length xs
    → a ≡ get_or xs j a
    → bag coded_pair (atom_pairs xs) p
    ≡ one coded_pair (a.id.site, a.id.k) p + bag coded_pair (atom_pairs (left j xs)) p
pairs_left [] j a p h e = absurd (omega arith)
pairs_left (b ∷ xs) zero a p h e = ap
    (λ (x : NumberedAtom). one coded_pair (x.id.site, x.id.k) p + bag coded_pair (atom_pairs xs) p)
    (sym e)
pairs_left (b ∷ xs) (suc j) a p h e = omega (arith, pairs_left xs j a p (omega arith) e)

found_left : (xs : List NumberedAtom) (j : ℕ) (a : NumberedAtom) (i : AtomId) → j < length xs
    → a ≡ get_or xs j a → same_atom a.id i ≡ false → atom_at (left j xs) i ≡ atom_at xs i
found_left [] j a i h e f = absurd (omega arith)
found_left (b ∷ xs) zero a i h e f = sym (ap (λ t. cond t (Some b) (atom_at xs i))
    (ap (λ (x : NumberedAtom). same_atom x.id i) (sym e) ∙ f))
found_left (b ∷ xs) (suc j) a i h e f =
    ap (cond (same_atom b.id i) (Some b)) (found_left xs j a i (omega arith) e f)

-- what a slice of the list gives is a member
pub listed : (xs items : List NumberedAtom) (a : NumberedAtom) (j : ℕ) → items ≡ xs
    → j < length items → a ≡ get_or items j a → IsIn a xs
listed xs items a j same low at =
    subst (λ (l : List NumberedAtom). IsIn a l) same (at_in items j a low at)

module _ (old now xs items : List NumberedAtom) (a : NumberedAtom) (j : ℕ)
    (d : AtomsDiffer (old ++ xs)) (same : items ≡ xs) (low : j < length items)
    (at : a ≡ get_or items j a) where
  low_in : j < length xs
  low_in = subst (λ (l : List NumberedAtom). j < length l) same low

  at_is : a ≡ get_or xs j a
  at_is = subst (λ (l : List NumberedAtom). a ≡ get_or l j a) same at

  found : atom_at xs a.id ≡ Some a
  found = member_found xs (differ_back old xs d) a (at_in xs j a low_in at_is)

  new_there : atom_at old a.id ≡ None
  new_there = not_in_front old xs a.id a d found

  pub settled : Adds a old now → Keeps old xs now (take j xs ++ drop (j + 1) xs)
  settled adds =
      let next : suc j ≡ j + 1 = omega arith in
      subst (λ (k : ℕ). Keeps old xs now (take j xs ++ drop k xs)) next (record {
        alike = λ i. atom_at-append old xs i ∙ alike i (same_atom a.id i) refl
            ∙ sym (atom_at-append now (left j xs) i);
        differ = λ p. omega (
          arith,
          d p,
          pairs_both old xs p,
          pairs_both now (left j xs) p,
          adds.pairs p,
          pairs_left xs j a p low_in at_is,
        );
      })
    where
      alike : (i : AtomId) (t : Bool) → same_atom a.id i ≡ t
          → or_else (atom_at old i) (atom_at xs i) ≡ or_else (atom_at now i) (atom_at (left j xs) i)
      alike i true c =
          let is : a.id ≡ i = same_atom_is a.id i c in
          let none : atom_at old i ≡ None =
          subst (λ (k : AtomId). atom_at old k ≡ None) is new_there in
          let here : atom_at xs i ≡ Some a =
          subst (λ (k : AtomId). atom_at xs k ≡ Some a) is found in
          let there : atom_at now i ≡ Some a =
          adds.finds i ∙ ap (λ t. cond t (Some a) (atom_at old i)) c in
          ap (λ o. or_else o (atom_at xs i)) none ∙ here
          ∙ sym (ap (λ o. or_else o (atom_at (left j xs) i)) there)
      alike i false c =
          let there : atom_at now i ≡ atom_at old i =
          adds.finds i ∙ ap (λ t. cond t (Some a) (atom_at old i)) c in
          ap (or_else (atom_at old i)) (sym (found_left xs j a i low_in at_is c))
          ∙ ap (λ o. or_else o (atom_at (left j xs) i)) (sym there)

-- ---- one that comes back

pairs_taken : (i : AtomId) (xs : List NumberedAtom) (a : NumberedAtom) (p : Pair)
    → atom_at xs i ≡ Some a
    → bag coded_pair (atom_pairs xs) p
    ≡ one coded_pair (a.id.site, a.id.k) p + bag coded_pair (atom_pairs (without i xs)) p
pairs_taken i [] a p e = cc
pairs_taken i (b ∷ xs) a p e = go (same_atom b.id i) (pairs_taken i xs a p) e
  where
    go : (t : Bool)
        → (atom_at xs i ≡ Some a
        → bag coded_pair (atom_pairs xs) p
        ≡ one coded_pair (a.id.site, a.id.k) p + bag coded_pair (atom_pairs (without i xs)) p)
        → cond t (Some b) (atom_at xs i) ≡ Some a
        → one coded_pair (b.id.site, b.id.k) p + bag coded_pair (atom_pairs xs) p
        ≡ one coded_pair (a.id.site, a.id.k) p
        + bag coded_pair (atom_pairs (cond t xs (b ∷ without i xs))) p
    go true ih f =
        let same : b ≡ a = cc in
        ap (λ (x : NumberedAtom).
        one coded_pair (x.id.site, x.id.k) p + bag coded_pair (atom_pairs xs) p) same
    go false ih f = omega (arith, ih f)

pub brought : (old xs : List NumberedAtom) (i : AtomId) (a : NumberedAtom) → AtomsDiffer (old ++ xs)
    → atom_at old i ≡ Some a → Keeps old xs (without i old) (xs ++ a ∷ [])
brought old xs i a d e = record {
  alike = λ j. atom_at-append old xs j ∙ alike j (same_atom i j) refl
      ∙ ap (or_else (atom_at (without i old) j)) (sym (atom_at-append xs (a ∷ []) j))
      ∙ sym (atom_at-append (without i old) (xs ++ a ∷ []) j);
  differ = λ p. omega (
    arith,
    d p,
    pairs_both old xs p,
    pairs_both (without i old) (xs ++ a ∷ []) p,
    pairs_both xs (a ∷ []) p,
    pairs_taken i old a p e,
  );
}
  where
    has : a.id ≡ i
    has = atom_has old i a e

    alike : (j : AtomId) (t : Bool) → same_atom i j ≡ t
        → or_else (atom_at old j) (atom_at xs j)
        ≡ or_else (atom_at (without i old) j)
        (or_else (atom_at xs j) (cond (same_atom a.id j) (Some a) None))
    alike j true c =
        let is : i ≡ j = same_atom_is i j c in
        let here : atom_at old j ≡ Some a = subst (λ (k : AtomId). atom_at old k ≡ Some a) is e in
        let none : atom_at xs j ≡ None = not_behind old xs j a d here in
        let out : atom_at (without i old) j ≡ None =
        atom_at-without i j old (differ_front old xs d) ∙ ap (λ t. cond t None (atom_at old j)) c in
        let last : same_atom a.id j ≡ true = ap (λ (k : AtomId). same_atom k j) has ∙ c in
        let right : or_else (atom_at (without i old) j)
        (or_else (atom_at xs j) (cond (same_atom a.id j) (Some a) None)) ≡ Some a =
        ap (λ o. or_else o (or_else (atom_at xs j) (cond (same_atom a.id j) (Some a) None))) out
        ∙ ap (λ o. or_else o (cond (same_atom a.id j) (Some a) None)) none
        ∙ ap (λ t. cond t (Some a) None) last in
        ap (λ o. or_else o (atom_at xs j)) here ∙ sym right
    alike j false c =
        let out : atom_at (without i old) j ≡ atom_at old j =
        atom_at-without i j old (differ_front old xs d) ∙ ap (λ t. cond t None (atom_at old j)) c in
        let last : same_atom a.id j ≡ false = ap (λ (k : AtomId). same_atom k j) has ∙ c in
        let rest : atom_at xs j ≡ or_else (atom_at xs j) (cond (same_atom a.id j) (Some a) None) =
        or_none (atom_at xs j)
        ∙ ap (λ t. or_else (atom_at xs j) (cond t (Some a) None)) (sym last) in
        ap (or_else (atom_at old j)) rest
        ∙ ap (λ o. or_else o (or_else (atom_at xs j) (cond (same_atom a.id j) (Some a) None)))
        (sym out)

pub fewer : (i : AtomId) (old : List NumberedAtom) → AtomsDiffer old → (j : AtomId)
    → atom_at old j ≡ None → atom_at (without i old) j ≡ None
fewer i old d j e = atom_at-without i j old d ∙ go (same_atom i j)
  where
    go : (t : Bool) → cond t None (atom_at old j) ≡ None
    go true = refl
    go false = e

-- ---- members of the one list and of the other

-- what holds of one that is added, and of all that stood there, holds of each that stands there now
pub each_added : (P : NumberedAtom → Type 0) (old now : List NumberedAtom) (a : NumberedAtom)
    → AtomsDiffer now → Adds a old now → P a → ((b : NumberedAtom) → IsIn b old → P b)
    → (b : NumberedAtom) → IsIn b now → P b
each_added P old now a d adds is h b at =
    go (same_atom a.id b.id) (sym (adds.finds b.id) ∙ member_found now d b at)
  where
    go : (t : Bool) → cond t (Some a) (atom_at old b.id) ≡ Some b → P b
    go true e = let same : a ≡ b = cc in subst P same is
    go false e = h b (found_in old b.id b e)

-- what holds of all with other numbers holds of each that is left
pub each_left : (P : NumberedAtom → Type 0) (i : AtomId) (old : List NumberedAtom)
    → AtomsDiffer old → ((b : NumberedAtom) → IsIn b old → (b.id ≡ i → ⊥) → P b)
    → (b : NumberedAtom) → IsIn b (without i old) → P b
each_left P i old d h b at =
    go (same_atom i b.id) refl (sym (atom_at-without i b.id old d)
    ∙ member_found (without i old) (differ-without i old d) b at)
  where
    go : (t : Bool) → same_atom i b.id ≡ t → cond t None (atom_at old b.id) ≡ Some b → P b
    go true e f = cc
    go false e f = h b (found_in old b.id b f) (λ same.
        let wrong : false ≡ true =
        sym e ∙ ap (same_atom i) same ∙ same_atom_refl i in
        cc)

-- members are counted
pub pair_in : (xs : List NumberedAtom) (a : NumberedAtom) (p : Pair) → IsIn a xs
    → one coded_pair (a.id.site, a.id.k) p ≤ bag coded_pair (atom_pairs xs) p
pair_in [] a p at = absurd at
pair_in (b ∷ xs) a p (inl e) =
    let same : one coded_pair (a.id.site, a.id.k) p ≡ one coded_pair (b.id.site, b.id.k) p =
    ap (λ (x : NumberedAtom). one coded_pair (x.id.site, x.id.k) p) e in
    omega (arith, same)
pair_in (b ∷ xs) a p (inr at) = omega (arith, pair_in xs a p at)

-- one of the newest isn't among the older ones, and may go there
pub not_older : (old xs : List NumberedAtom) (a : NumberedAtom) → AtomsDiffer (old ++ xs)
    → IsIn a xs → atom_at old a.id ≡ None
not_older old xs a d at =
    not_in_front old xs a.id a d (member_found xs (differ_back old xs d) a at)

pub differ_added : (old now xs : List NumberedAtom) (a : NumberedAtom) → AtomsDiffer (old ++ xs)
    → IsIn a xs → Adds a old now → AtomsDiffer now
differ_added old now xs a d at adds p =
    omega (arith, d p, pairs_both old xs p, adds.pairs p, pair_in xs a p at)
