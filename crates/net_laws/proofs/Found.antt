-- What stands in the bag of a solution's atoms or rules is found by its number, and what is left
-- once it is taken.
use Rattle.std.proofs.Common.{◌≡◌, ◌+◌, ◌<◌, ◌≤◌, List, [], ◌∷◌, Some, Bool, true, false, cond}
use Rattle.std.proofs.Common.{refl, ap, ◌∙◌, arith, inl, inr}
use Rattle.chem_model.specs.declared.event.AtomId.{AtomId}
use Rattle.chem_model.specs.declared.event.RuleId.{RuleId}
use Rattle.chem_model.specs.declared.numbered.NumberedRule.{NumberedRule}
use Rattle.chem_model.specs.declared.numbered.NumberedAtom.{NumberedAtom}
use Rattle.chem_model.specs.Bag.{one, bag}
use Rattle.chem_model.specs.NewNames.{Pair, coded_pair}
use Rattle.chem_model.specs.Numbered.{atom_pairs, rule_pairs}
use Rattle.chem_model.specs.Apply.{same_atom, same_rule, atom_at, rule_at, without}
use Rattle.chem_laws.proofs.Lists.{above}
use Rattle.chem_laws.proofs.Bags.{one_self, one_is}
use Rattle.chem_laws.proofs.Taking.{same_atom_is, same_atom_refl, same_rule_is, same_rule_refl}
use Rattle.chem_laws.proofs.Taking.{atom_pair_found, rule_pair_found}
use Rattle.net_laws.specs.Site.{coded_atom, coded_rule}

pub atom_in : (atoms : List NumberedAtom) (a : NumberedAtom)
    → ((p : Pair) → bag coded_pair (atom_pairs atoms) p ≤ 1) → 0 < bag coded_atom atoms a
    → atom_at atoms a.id ≡ Some a
atom_in [] a d h = absurd (omega arith)
atom_in (b ∷ atoms) a d h =
    elim (above (one coded_atom b a) (bag coded_atom atoms a) h) [
      | inl u ↦ here (one_is coded_atom b a u)
      | inr u ↦ later (atom_in atoms a (λ p. omega (arith, d p)) u)
    ]
  where
    here : b ≡ a → cond (same_atom b.id a.id) (Some b) (atom_at atoms a.id) ≡ Some a
    here e = ap (λ (c : NumberedAtom). cond (same_atom c.id a.id) (Some c) (atom_at atoms a.id)) e
        ∙ ap (λ t. cond t (Some a) (atom_at atoms a.id)) (same_atom_refl a.id)

    other : atom_at atoms a.id ≡ Some a → (t : Bool) → same_atom b.id a.id ≡ t → t ≡ false
    other s false c = refl
    other s true c =
        let more = atom_pair_found atoms a.id a s in
        let same : one coded_pair (b.id.site, b.id.k) (a.id.site, a.id.k) ≡ 1 =
        ap (λ (j : AtomId). one coded_pair (j.site, j.k) (a.id.site, a.id.k))
        (same_atom_is b.id a.id c) ∙ one_self coded_pair (a.id.site, a.id.k) in
        absurd (omega (arith, d (a.id.site, a.id.k)))

    later : atom_at atoms a.id ≡ Some a
        → cond (same_atom b.id a.id) (Some b) (atom_at atoms a.id) ≡ Some a
    later s =
        ap (λ t. cond t (Some b) (atom_at atoms a.id)) (other s (same_atom b.id a.id) refl) ∙ s

pub rule_in : (rules : List NumberedRule) (r : NumberedRule)
    → ((p : Pair) → bag coded_pair (rule_pairs rules) p ≤ 1) → 0 < bag coded_rule rules r
    → rule_at rules r.id ≡ Some r
rule_in [] r d h = absurd (omega arith)
rule_in (b ∷ rules) r d h =
    elim (above (one coded_rule b r) (bag coded_rule rules r) h) [
      | inl u ↦ here (one_is coded_rule b r u)
      | inr u ↦ later (rule_in rules r (λ p. omega (arith, d p)) u)
    ]
  where
    here : b ≡ r → cond (same_rule b.id r.id) (Some b) (rule_at rules r.id) ≡ Some r
    here e = ap (λ (c : NumberedRule). cond (same_rule c.id r.id) (Some c) (rule_at rules r.id)) e
        ∙ ap (λ t. cond t (Some r) (rule_at rules r.id)) (same_rule_refl r.id)

    other : rule_at rules r.id ≡ Some r → (t : Bool) → same_rule b.id r.id ≡ t → t ≡ false
    other s false c = refl
    other s true c =
        let more = rule_pair_found rules r.id r s in
        let same : one coded_pair (b.id.site, b.id.k) (r.id.site, r.id.k) ≡ 1 =
        ap (λ (j : RuleId). one coded_pair (j.site, j.k) (r.id.site, r.id.k))
        (same_rule_is b.id r.id c) ∙ one_self coded_pair (r.id.site, r.id.k) in
        absurd (omega (arith, d (r.id.site, r.id.k)))

    later : rule_at rules r.id ≡ Some r
        → cond (same_rule b.id r.id) (Some b) (rule_at rules r.id) ≡ Some r
    later s =
        ap (λ t. cond t (Some b) (rule_at rules r.id)) (other s (same_rule b.id r.id) refl) ∙ s

-- what is found stands in the bag
pub atom_stands : (atoms : List NumberedAtom) (i : AtomId) (a : NumberedAtom)
    → atom_at atoms i ≡ Some a → 0 < bag coded_atom atoms a
atom_stands [] i a e = cc
atom_stands (b ∷ atoms) i a e = go (same_atom b.id i) (atom_stands atoms i a) e
  where
    go : (t : Bool) → (atom_at atoms i ≡ Some a → 0 < bag coded_atom atoms a)
        → cond t (Some b) (atom_at atoms i) ≡ Some a
        → 0 < one coded_atom b a + bag coded_atom atoms a
    go true ih e' =
        let same : b ≡ a = cc in
        let here : one coded_atom b a ≡ 1 =
        ap (λ (c : NumberedAtom). one coded_atom c a) same ∙ one_self coded_atom a in
        omega arith
    go false ih e' = omega (arith, ih e')

pub rule_in_bag : (rules : List NumberedRule) (i : RuleId) (r : NumberedRule)
    → rule_at rules i ≡ Some r → 0 < bag coded_rule rules r
rule_in_bag [] i r e = cc
rule_in_bag (b ∷ rules) i r e = go (same_rule b.id i) (rule_in_bag rules i r) e
  where
    go : (t : Bool) → (rule_at rules i ≡ Some r → 0 < bag coded_rule rules r)
        → cond t (Some b) (rule_at rules i) ≡ Some r
        → 0 < one coded_rule b r + bag coded_rule rules r
    go true ih e' =
        let same : b ≡ r = cc in
        let here : one coded_rule b r ≡ 1 =
        ap (λ (c : NumberedRule). one coded_rule c r) same ∙ one_self coded_rule r in
        omega arith
    go false ih e' = omega (arith, ih e')

-- once one is taken, all others are left
pub bag_without : (atoms : List NumberedAtom) (i : AtomId) (a x : NumberedAtom)
    → atom_at atoms i ≡ Some a
    → bag coded_atom atoms x ≡ one coded_atom a x + bag coded_atom (without i atoms) x
bag_without [] i a x e = cc
bag_without (b ∷ atoms) i a x e = go (same_atom b.id i) (bag_without atoms i a x) e
  where
    go : (t : Bool)
        → (atom_at atoms i ≡ Some a
        → bag coded_atom atoms x ≡ one coded_atom a x + bag coded_atom (without i atoms) x)
        → cond t (Some b) (atom_at atoms i) ≡ Some a
        → one coded_atom b x + bag coded_atom atoms x
        ≡ one coded_atom a x + bag coded_atom (cond t atoms (b ∷ without i atoms)) x
    go true ih e' =
        let same : b ≡ a = cc in
        ap (λ (u : NumberedAtom). one coded_atom u x + bag coded_atom atoms x) same
    go false ih e' = omega (arith, ih e')
