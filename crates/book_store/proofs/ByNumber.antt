-- What is found by a number: where all numbers are different, in one list behind another, and in
-- one of which a member was taken out.
use Rattle.std.proofs.Common.{◌≡◌, List, [], ◌∷◌, ◌++◌, Option, Some, None, Bool, true, false, cond}
use Rattle.std.proofs.Common.{refl, ap, sym, ◌∙◌, arith, ◌⊎◌, inl, inr}
use Rattle.chem_model.specs.declared.event.AtomId.{AtomId}
use Rattle.chem_model.specs.declared.event.RuleId.{RuleId}
use Rattle.chem_model.specs.declared.numbered.NumberedRule.{NumberedRule}
use Rattle.chem_model.specs.declared.numbered.NumberedAtom.{NumberedAtom}
use Rattle.chem_model.specs.Each.{IsIn}
use Rattle.chem_model.specs.Bag.{one}
use Rattle.chem_model.specs.NewNames.{coded_pair}
use Rattle.chem_model.specs.Apply.{same_atom, same_rule, atom_at, rule_at, without}
use Rattle.chem_laws.proofs.Bags.{one_self}
use Rattle.chem_laws.proofs.Taking.{same_atom_is, same_atom_refl, same_rule_is, same_rule_refl}
use Rattle.chem_laws.proofs.Taking.{atom_pair_found, rule_pair_found, found-without, pairs-without}
use Rattle.chem_commit.specs.inside.Differ.{AtomsDiffer, RulesDiffer}
use Rattle.book_store.specs.Walk.{or_else}

pub same_some : {X : Type 0} (x y : X) → Some x ≡ Some y → x ≡ y
same_some x y e = cc

-- ---- what is found by a number has it, and a member is found by its number where all are
-- different

pub atom_has : (atoms : List NumberedAtom) (i : AtomId) (a : NumberedAtom)
    → atom_at atoms i ≡ Some a → a.id ≡ i
atom_has [] i a e = cc
atom_has (b ∷ atoms) i a e = go (same_atom b.id i) refl (atom_has atoms i a) e
  where
    go : (t : Bool) → same_atom b.id i ≡ t → (atom_at atoms i ≡ Some a → a.id ≡ i)
        → cond t (Some b) (atom_at atoms i) ≡ Some a → a.id ≡ i
    go true c ih e' =
        let same : b ≡ a = cc in
        ap (λ (x : NumberedAtom). x.id) (sym same) ∙ same_atom_is b.id i c
    go false c ih e' = ih e'

pub rule_has : (rules : List NumberedRule) (i : RuleId) (r : NumberedRule)
    → rule_at rules i ≡ Some r → r.id ≡ i
rule_has [] i r e = cc
rule_has (q ∷ rules) i r e = go (same_rule q.id i) refl (rule_has rules i r) e
  where
    go : (t : Bool) → same_rule q.id i ≡ t → (rule_at rules i ≡ Some r → r.id ≡ i)
        → cond t (Some q) (rule_at rules i) ≡ Some r → r.id ≡ i
    go true c ih e' =
        let same : q ≡ r = cc in
        ap (λ (x : NumberedRule). x.id) (sym same) ∙ same_rule_is q.id i c
    go false c ih e' = ih e'

pub member_found : (atoms : List NumberedAtom) → AtomsDiffer atoms → (a : NumberedAtom)
    → IsIn a atoms → atom_at atoms a.id ≡ Some a
member_found [] d a h = absurd h
member_found (b ∷ atoms) d a (inl e) = ap (λ t. cond t (Some b) (atom_at atoms a.id))
    (ap (λ (x : NumberedAtom). same_atom b.id x.id) e ∙ same_atom_refl b.id) ∙ ap Some (sym e)
member_found (b ∷ atoms) d a (inr h) =
    let found = member_found atoms (λ p. omega (arith, d p)) a h in
    ap (λ t. cond t (Some b) (atom_at atoms a.id)) (other found (same_atom b.id a.id) refl) ∙ found
  where
    other : atom_at atoms a.id ≡ Some a → (t : Bool) → same_atom b.id a.id ≡ t → t ≡ false
    other found false c = refl
    other found true c =
        let later = atom_pair_found atoms a.id a found in
        let here : one coded_pair (b.id.site, b.id.k) (a.id.site, a.id.k) ≡ 1 =
        ap (λ (j : AtomId). one coded_pair (j.site, j.k) (a.id.site, a.id.k))
        (same_atom_is b.id a.id c) ∙ one_self coded_pair (a.id.site, a.id.k) in
        absurd (omega (arith, d (a.id.site, a.id.k)))

pub rule_member_found : (rules : List NumberedRule) → RulesDiffer rules → (r : NumberedRule)
    → IsIn r rules → rule_at rules r.id ≡ Some r
rule_member_found [] d r h = absurd h
rule_member_found (q ∷ rules) d r (inl e) = ap (λ t. cond t (Some q) (rule_at rules r.id))
    (ap (λ (x : NumberedRule). same_rule q.id x.id) e ∙ same_rule_refl q.id) ∙ ap Some (sym e)
rule_member_found (q ∷ rules) d r (inr h) =
    let found = rule_member_found rules (λ p. omega (arith, d p)) r h in
    ap (λ t. cond t (Some q) (rule_at rules r.id)) (other found (same_rule q.id r.id) refl) ∙ found
  where
    other : rule_at rules r.id ≡ Some r → (t : Bool) → same_rule q.id r.id ≡ t → t ≡ false
    other found false c = refl
    other found true c =
        let later = rule_pair_found rules r.id r found in
        let here : one coded_pair (q.id.site, q.id.k) (r.id.site, r.id.k) ≡ 1 =
        ap (λ (j : RuleId). one coded_pair (j.site, j.k) (r.id.site, r.id.k))
        (same_rule_is q.id r.id c) ∙ one_self coded_pair (r.id.site, r.id.k) in
        absurd (omega (arith, d (r.id.site, r.id.k)))

-- what is found stands in the list
pub found_in : (atoms : List NumberedAtom) (i : AtomId) (a : NumberedAtom)
    → atom_at atoms i ≡ Some a → IsIn a atoms
found_in [] i a e = cc
found_in (b ∷ atoms) i a e = go (same_atom b.id i) (found_in atoms i a) e
  where
    go : (t : Bool) → (atom_at atoms i ≡ Some a → IsIn a atoms)
        → cond t (Some b) (atom_at atoms i) ≡ Some a → (a ≡ b) ⊎ IsIn a atoms
    go true later e' = inl (sym (same_some b a e'))
    go false later e' = inr (later e')

-- ---- one behind the other

pub atom_at-append : (xs ys : List NumberedAtom) (i : AtomId)
    → atom_at (xs ++ ys) i ≡ or_else (atom_at xs i) (atom_at ys i)
atom_at-append [] ys i = refl
atom_at-append (a ∷ xs) ys i = go (same_atom a.id i) (atom_at-append xs ys i)
  where
    go : (t : Bool) → atom_at (xs ++ ys) i ≡ or_else (atom_at xs i) (atom_at ys i)
        → cond t (Some a) (atom_at (xs ++ ys) i)
        ≡ or_else (cond t (Some a) (atom_at xs i)) (atom_at ys i)
    go true ih = refl
    go false ih = ih

-- ---- one taken out

-- what was taken out isn't found any more, where all are different
pub gone : (i : AtomId) (xs : List NumberedAtom) → AtomsDiffer xs → atom_at (without i xs) i ≡ None
gone i [] d = refl
gone i (a ∷ xs) d = go (same_atom a.id i) refl (gone i xs (λ p. omega (arith, d p)))
  where
    nothing : same_atom a.id i ≡ true → (o : Option NumberedAtom) → atom_at xs i ≡ o → o ≡ None
    nothing c None f = refl
    nothing c (Some b) f =
        let later = atom_pair_found xs i b f in
        let here : one coded_pair (a.id.site, a.id.k) (i.site, i.k) ≡ 1 =
        ap (λ (j : AtomId). one coded_pair (j.site, j.k) (i.site, i.k)) (same_atom_is a.id i c)
        ∙ one_self coded_pair (i.site, i.k) in
        absurd (omega (arith, d (i.site, i.k)))

    go : (t : Bool) → same_atom a.id i ≡ t → atom_at (without i xs) i ≡ None
        → atom_at (cond t xs (a ∷ without i xs)) i ≡ None
    go true c ih = nothing c (atom_at xs i) refl
    go false c ih = ap (λ t. cond t (Some a) (atom_at (without i xs) i)) c ∙ ih

pub atom_at-without : (i j : AtomId) (xs : List NumberedAtom) → AtomsDiffer xs
    → atom_at (without i xs) j ≡ cond (same_atom i j) None (atom_at xs j)
atom_at-without i j xs d = go (same_atom i j) refl
  where
    go : (t : Bool) → same_atom i j ≡ t → atom_at (without i xs) j ≡ cond t None (atom_at xs j)
    go true c = ap (atom_at (without i xs)) (sym (same_atom_is i j c)) ∙ gone i xs d
    go false c = found-without i j xs c

pub differ-without : (i : AtomId) (xs : List NumberedAtom) → AtomsDiffer xs
    → AtomsDiffer (without i xs)
differ-without i xs d p = omega (arith, d p, pairs-without i xs p)
