-- What a possible event says of its rule and of what it takes.
use Rattle.std.proofs.Common.{◌≡◌, ℕ, ◌≤◌, List, [], ◌∷◌, Option, Some, None, Bool, true, false}
use Rattle.std.proofs.Common.{cond, refl, ap, sym, ◌∙◌, arith, ◌&&◌, ◌||◌, inl, inr, is_some}
use Rattle.std.proofs.lemmas.Bool.{and_parts}
use Rattle.std.specs.List.{list_any, list_all}
use Rattle.chem_model.specs.declared.name.Loc.{Loc}
use Rattle.chem_model.specs.declared.name.Pat.{Pat}
use Rattle.chem_model.specs.declared.event.AtomId.{AtomId}
use Rattle.chem_model.specs.declared.event.RuleId.{RuleId}
use Rattle.chem_model.specs.declared.event.Event.TheVariants as event
use Rattle.chem_model.specs.declared.numbered.NumberedRule.{NumberedRule}
use Rattle.chem_model.specs.declared.numbered.NumberedAtom.{NumberedAtom}
use Rattle.chem_model.specs.declared.numbered.Numbered.{Numbered}
use Rattle.chem_model.specs.Each.{IsIn}
use Rattle.chem_model.specs.Bag.{one, bag}
use Rattle.chem_model.specs.NewNames.{coded_pair}
use Rattle.chem_model.specs.Fill.{Naming}
use Rattle.chem_model.specs.Solution.{live}
use Rattle.chem_model.specs.Numbered.{standing, atom_pairs, rule_pairs}
use Rattle.chem_model.specs.Apply.{same_atom, same_rule, atom_at, rule_at, received_at}
use Rattle.chem_model.specs.Apply.{both_received, received_all, react_received, react_rule, apply}
use Rattle.chem_laws.proofs.Bags.{one_self}
use Rattle.chem_laws.proofs.Taking.{same_atom_is, same_atom_refl, same_rule_is, same_rule_refl}
use Rattle.chem_laws.proofs.Taking.{atom_pair_found, rule_pair_found}
use Rattle.chem_causes.specs.Ready.{receives, is_met, is_ready}

pub atom_has : (atoms : List NumberedAtom) (i : AtomId) (a : NumberedAtom)
    → atom_at atoms i ≡ Some a → a.id ≡ i
atom_has [] i a e = cc
atom_has (b ∷ atoms) i a e = go (same_atom b.id i) refl (atom_has atoms i a) e
  where
    go : (t : Bool) → same_atom b.id i ≡ t → (atom_at atoms i ≡ Some a → a.id ≡ i)
        → cond t (Some b) (atom_at atoms i) ≡ Some a → a.id ≡ i
    go true c ih e' =
        let same : b ≡ a = cc in
        ap (λ (x : NumberedAtom). x.id) (sym same) ∙ same_atom_is b.id i c
    go false c ih e' = ih e'

abbrev pub AtomsDiffer : List NumberedAtom → Type 0
AtomsDiffer atoms = (p : ℕ × ℕ) → bag coded_pair (atom_pairs atoms) p ≤ 1

pub member_found : (atoms : List NumberedAtom) → AtomsDiffer atoms → (a : NumberedAtom)
    → IsIn a atoms → atom_at atoms a.id ≡ Some a
member_found [] d a h = absurd h
member_found (b ∷ atoms) d a (inl e) = ap (λ t. cond t (Some b) (atom_at atoms a.id))
    (ap (λ (x : NumberedAtom). same_atom b.id x.id) e ∙ same_atom_refl b.id) ∙ ap Some (sym e)
member_found (b ∷ atoms) d a (inr h) =
    let found = member_found atoms (λ p. omega (arith, d p)) a h in
    ap (λ t. cond t (Some b) (atom_at atoms a.id)) (other found (same_atom b.id a.id) refl) ∙ found
  where
    other : atom_at atoms a.id ≡ Some a → (t : Bool) → same_atom b.id a.id ≡ t → t ≡ false
    other found false c = refl
    other found true c =
        let later = atom_pair_found atoms a.id a found in
        let here : one coded_pair (b.id.site, b.id.k) (a.id.site, a.id.k) ≡ 1 =
        ap (λ (j : AtomId). one coded_pair (j.site, j.k) (a.id.site, a.id.k))
        (same_atom_is b.id a.id c) ∙ one_self coded_pair (a.id.site, a.id.k) in
        absurd (omega (arith, d (a.id.site, a.id.k)))

abbrev pub RulesDiffer : List NumberedRule → Type 0
RulesDiffer rules = (p : ℕ × ℕ) → bag coded_pair (rule_pairs rules) p ≤ 1

pub rule_member_found : (rules : List NumberedRule) → RulesDiffer rules → (r : NumberedRule)
    → IsIn r rules → rule_at rules r.id ≡ Some r
rule_member_found [] d r h = absurd h
rule_member_found (q ∷ rules) d r (inl e) = ap (λ t. cond t (Some q) (rule_at rules r.id))
    (ap (λ (x : NumberedRule). same_rule q.id x.id) e ∙ same_rule_refl q.id) ∙ ap Some (sym e)
rule_member_found (q ∷ rules) d r (inr h) =
    let found = rule_member_found rules (λ p. omega (arith, d p)) r h in
    ap (λ t. cond t (Some q) (rule_at rules r.id)) (other found (same_rule q.id r.id) refl) ∙ found
  where
    other : rule_at rules r.id ≡ Some r → (t : Bool) → same_rule q.id r.id ≡ t → t ≡ false
    other found false c = refl
    other found true c =
        let later = rule_pair_found rules r.id r found in
        let here : one coded_pair (q.id.site, q.id.k) (r.id.site, r.id.k) ≡ 1 =
        ap (λ (j : RuleId). one coded_pair (j.site, j.k) (r.id.site, r.id.k))
        (same_rule_is q.id r.id c) ∙ one_self coded_pair (r.id.site, r.id.k) in
        absurd (omega (arith, d (r.id.site, r.id.k)))

pub some_both : (o q : Option Naming) → is_some (both_received o q) ≡ is_some o && is_some q
some_both None q = refl
some_both (Some m) None = refl
some_both (Some m) (Some ms) = refl

-- what was received from an atom by its number was received from one that is there
pub record Received (atoms : List NumberedAtom) (l : Loc) (p : Pat) (i : AtomId) : Type 0 where
  pub atom : NumberedAtom
  pub found : atom_at atoms i ≡ Some atom
  pub passes : receives l p atom ≡ true

received_from :
    (atoms : List NumberedAtom) (l : Loc) (p : Pat) (i : AtomId) (o : Option NumberedAtom)
    → atom_at atoms i ≡ o → is_some (received_at l p o) ≡ true → Received atoms l p i
received_from atoms l p i None e h = cc
received_from atoms l p i (Some a) e h = record { atom = a; found = e; passes = h }

pub received_first :
    (atoms : List NumberedAtom) (l : Loc) (p : Pat) (ps : List Pat) (i : AtomId)
    (took : List AtomId) → is_some (received_all atoms l (p ∷ ps) (i ∷ took)) ≡ true
    → Received atoms l p i × (is_some (received_all atoms l ps took) ≡ true)
received_first atoms l p ps i took h =
    let f =
    and_parts (is_some (received_at l p (atom_at atoms i))) (is_some (received_all atoms l ps took))
    (sym (some_both (received_at l p (atom_at atoms i)) (received_all atoms l ps took)) ∙ h) in
    (received_from atoms l p i (atom_at atoms i) refl f.0, f.1)

met_by : (atoms : List NumberedAtom) (l : Loc) (p : Pat) (i : AtomId) (a : NumberedAtom)
    → atom_at atoms i ≡ Some a → receives l p a ≡ true → is_met atoms l p ≡ true
met_by [] l p i a e h = cc
met_by (b ∷ atoms) l p i a e h = go (same_atom b.id i) (λ f. met_by atoms l p i a f h) e
  where
    later : (t : Bool) → list_any (receives l p) atoms ≡ true
        → t || list_any (receives l p) atoms ≡ true
    later true f = refl
    later false f = f

    go : (t : Bool) → (atom_at atoms i ≡ Some a → is_met atoms l p ≡ true)
        → cond t (Some b) (atom_at atoms i) ≡ Some a
        → receives l p b || list_any (receives l p) atoms ≡ true
    go true ih e' =
        let same : b ≡ a = cc in
        ap (λ (x : NumberedAtom). receives l p x || list_any (receives l p) atoms) same
        ∙ ap (λ t. t || list_any (receives l p) atoms) h
    go false ih e' = later (receives l p b) (ih e')

-- where messages are received, each pattern is met
pub all_met : (atoms : List NumberedAtom) (l : Loc) (ps : List Pat) (took : List AtomId)
    → is_some (received_all atoms l ps took) ≡ true → list_all (is_met atoms l) ps ≡ true
all_met atoms l [] took h = refl
all_met atoms l (p ∷ ps) [] h = cc
all_met atoms l (p ∷ ps) (i ∷ took) h =
    let f = received_first atoms l p ps i took h in
    let from = f.0 in
    ap (λ t. t && list_all (is_met atoms l) ps)
    (met_by atoms l p i from.atom from.found from.passes) ∙ all_met atoms l ps took f.1

pub record Reacting (n : Numbered) (i : RuleId) (took : List AtomId) : Type 0 where
  pub rule : NumberedRule
  pub found : rule_at n.rules i ≡ Some rule
  pub lives : live (standing n.places) rule.loc ≡ true
  pub received : is_some (received_all n.atoms rule.loc rule.pats took) ≡ true

some_received : (n : Numbered) (r : NumberedRule) (took : List AtomId) (o : Option Naming)
    → is_some (react_received n r took o) ≡ is_some o
some_received n r took None = refl
some_received n r took (Some m) = refl

reacting_rule : (n : Numbered) (i : RuleId) (took : List AtomId) (o : Option NumberedRule)
    → rule_at n.rules i ≡ o → is_some (react_rule n took o) ≡ true → Reacting n i took
reacting_rule n i took None e h = cc
reacting_rule n i took (Some r) e h = go (live (standing n.places) r.loc) refl h
  where
    go : (t : Bool) → live (standing n.places) r.loc ≡ t
        → is_some (cond t (react_received n r took (received_all n.atoms r.loc r.pats took)) None)
        ≡ true → Reacting n i took
    go true c h' = record {
      rule = r;
      found = e;
      lives = c;
      received = sym (some_received n r took (received_all n.atoms r.loc r.pats took)) ∙ h';
    }
    go false c h' = cc

pub reacting : (n : Numbered) (i : RuleId) (took : List AtomId)
    → is_some (apply n (event.React i took)) ≡ true → Reacting n i took
reacting n i took h = reacting_rule n i took (rule_at n.rules i) refl h

pub is_reacting : (n : Numbered) (i : RuleId) (took : List AtomId) (r : NumberedRule)
    → rule_at n.rules i ≡ Some r → live (standing n.places) r.loc ≡ true
    → is_some (received_all n.atoms r.loc r.pats took) ≡ true
    → is_some (apply n (event.React i took)) ≡ true
is_reacting n i took r e c h =
    ap (λ o. is_some (react_rule n took o)) e
    ∙ ap
    (λ t. is_some (cond t (react_received n r took (received_all n.atoms r.loc r.pats took)) None))
    c
    ∙ some_received n r took (received_all n.atoms r.loc r.pats took)
    ∙ h

-- a rule that reacts is ready
pub ready : (n : Numbered) (i : RuleId) (took : List AtomId) (a : Reacting n i took)
    → is_ready n a.rule ≡ true
ready n i took a = ap (λ t. t && list_all (is_met n.atoms a.rule.loc) a.rule.pats) a.lives
    ∙ all_met n.atoms a.rule.loc a.rule.pats took a.received
