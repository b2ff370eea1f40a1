-- Where the locations of a list differ, an entry that has a location is the one that is found.
use Rattle.std.proofs.Common.{◌≡◌, ◌<◌, ◌≤◌, ℕ, zero, suc, List, [], ◌∷◌, length, get_or, drop}
use Rattle.std.proofs.Common.{Bool, true, false, cond, refl, ap, sym, ◌∙◌, subst, arith}
use Rattle.std.specs.Prelude.{Option, Some, None}
use Rattle.std.proofs.lemmas.List.{get_or_default}
use Rattle.chem_model.specs.declared.name.Loc.{Loc}
use Rattle.chem_model.specs.declared.event.RuleId.{RuleId}
use Rattle.chem_model.specs.declared.numbered.Placed.{Placed}
use Rattle.chem_model.specs.declared.numbered.NumberedRule.{NumberedRule}
use Rattle.chem_model.specs.declared.numbered.Numbered.{Numbered}
use Rattle.chem_model.specs.Bag.{one, bag}
use Rattle.chem_model.specs.NewNames.{coded_pair}
use Rattle.chem_model.specs.Solution.{Standing, same_loc, is_there, host_of, or_itself, root}
use Rattle.chem_model.specs.Numbered.{standing, place_pairs, rule_pairs}
use Rattle.chem_model.specs.inside.Poured.{standing_of}
use Rattle.chem_model.specs.Apply.{same_rule, rule_at}
use Rattle.chem_model.specs.Sound.{IsSound}
use Rattle.chem_laws.proofs.Bags.{one_self}
use Rattle.chem_laws.proofs.Within.{same_loc_is}
use Rattle.chem_laws.proofs.Taking.{same_rule_is, rule_pair_found}
use Rattle.chem_laws.proofs.Places.{place_pair_found, root_loc}
use Rattle.chem_commit.specs.inside.Differ.{PlacesDiffer, RulesDiffer}

pub places_differ : (n : Numbered) → IsSound n → PlacesDiffer n.places
places_differ n sound p = omega (arith, sound.different p)

pub found_place : (ps : List Placed) → PlacesDiffer ps → (i : ℕ) (p : Placed) (l : Loc)
    → i < length ps → p ≡ get_or ps i p → same_loc p.loc l ≡ true
    → standing_of (Some p) ≡ standing ps l
found_place [] d i p l h e s = absurd (omega arith)
found_place (x ∷ xs) d zero p l h e s =
    ap (λ t. cond t (standing_of (Some p)) (standing xs l)) (sym s)
    ∙ ap (λ (q : Placed). cond (same_loc q.loc l) (standing_of (Some q)) (standing xs l)) e
found_place (x ∷ xs) d (suc i) p l h e s =
    let later = found_place xs (λ q. omega (arith, d q)) i p l (omega arith) e s in
    later
    ∙ ap (λ t. cond t (standing_of (Some x)) (standing xs l))
    (sym (other later (same_loc x.loc l) refl))
  where
    other : standing_of (Some p) ≡ standing xs l → (t : Bool) → same_loc x.loc l ≡ t → t ≡ false
    other found false c = refl
    other found true c =
        let there : 0 < bag coded_pair (place_pairs xs) (l.site, l.k) =
        place_pair_found xs l (ap is_there (sym found)) in
        let here : one coded_pair (x.loc.site, x.loc.k) (l.site, l.k) ≡ 1 =
        ap (λ (j : Loc). one coded_pair (j.site, j.k) (l.site, l.k)) (same_loc_is x.loc l c)
        ∙ one_self coded_pair (l.site, l.k) in
        absurd (omega (arith, d (l.site, l.k)))

-- the same of what a slice of the list gave
pub found_in : (ps zs : List Placed) → zs ≡ ps → PlacesDiffer ps → (i : ℕ) (p : Placed) (l : Loc)
    → i < length zs → p ≡ get_or zs i p → same_loc p.loc l ≡ true
    → standing_of (Some p) ≡ standing ps l
found_in ps zs is d i p l h e s =
    found_place ps d i p l (subst (λ (xs : List Placed). i < length xs) is h)
    (subst (λ (xs : List Placed). p ≡ get_or xs i p) is e) s

pub found_at : (ps zs : List Placed) → zs ≡ ps → PlacesDiffer ps → (i : ℕ) (q : Placed) (l : Loc)
    → i < length zs → same_loc (get_or zs i q).loc l ≡ true
    → standing_of (Some (get_or zs i q)) ≡ standing ps l
found_at ps zs is d i q l h s =
    found_in ps zs is d i (get_or zs i q) l h (get_or_default zs i q (get_or zs i q) h) s

-- one entry more from the end on isn't it
pub one_earlier : (ps : List Placed) (n : ℕ) (p : Placed) (l : Loc) → suc n ≤ length ps
    → p ≡ get_or ps n p → standing (drop (suc n) ps) l ≡ None → same_loc p.loc l ≡ false
    → standing (drop n ps) l ≡ None
one_earlier [] n p l h e none s = absurd (omega arith)
one_earlier (x ∷ xs) zero p l h e none s =
    ap (λ (q : Placed). cond (same_loc q.loc l) (standing_of (Some q)) (standing xs l)) (sym e)
    ∙ ap (λ t. cond t (standing_of (Some p)) (standing xs l)) s ∙ none
one_earlier (x ∷ xs) (suc n) p l h e none s = one_earlier xs n p l (omega arith) e none s

pub rules_differ : (n : Numbered) → IsSound n → RulesDiffer n.rules
rules_differ n sound p = omega (arith, sound.different p)

pub found_rule : (rules : List NumberedRule) → RulesDiffer rules
    → (j : ℕ) (r : NumberedRule) (i : RuleId) → j < length rules → r ≡ get_or rules j r
    → same_rule r.id i ≡ true → Some r ≡ rule_at rules i
found_rule [] d j r i h e s = absurd (omega arith)
found_rule (x ∷ xs) d zero r i h e s = ap (λ t. cond t (Some r) (rule_at xs i)) (sym s)
    ∙ ap (λ (q : NumberedRule). cond (same_rule q.id i) (Some q) (rule_at xs i)) e
found_rule (x ∷ xs) d (suc j) r i h e s =
    let later = found_rule xs (λ q. omega (arith, d q)) j r i (omega arith) e s in
    later ∙ ap (λ t. cond t (Some x) (rule_at xs i)) (sym (other later (same_rule x.id i) refl))
  where
    other : Some r ≡ rule_at xs i → (t : Bool) → same_rule x.id i ≡ t → t ≡ false
    other found false c = refl
    other found true c =
        let there : 0 < bag coded_pair (rule_pairs xs) (i.site, i.k) =
        rule_pair_found xs i r (sym found) in
        let here : one coded_pair (x.id.site, x.id.k) (i.site, i.k) ≡ 1 =
        ap (λ (q : RuleId). one coded_pair (q.site, q.k) (i.site, i.k)) (same_rule_is x.id i c)
        ∙ one_self coded_pair (i.site, i.k) in
        absurd (omega (arith, d (i.site, i.k)))

pub found_rule_in : (rules zs : List NumberedRule) → zs ≡ rules → RulesDiffer rules
    → (j : ℕ) (r : NumberedRule) (i : RuleId) → j < length zs → r ≡ get_or zs j r
    → same_rule r.id i ≡ true → Some r ≡ rule_at rules i
found_rule_in rules zs is d j r i h e s =
    found_rule rules d j r i (subst (λ (xs : List NumberedRule). j < length xs) is h)
    (subst (λ (xs : List NumberedRule). r ≡ get_or xs j r) is e) s

-- ---- a location with the number 0 is a root, or isn't there

pub root_itself : (n : Numbered) → IsSound n → (l : Loc) → l.k ≡ 0 → l ≡ root (standing n.places) l
root_itself n sound l k = go (is_there (standing n.places l)) refl
  where
    hostless : (o : Option Standing) → is_there o ≡ false → or_itself (host_of o) l ≡ l
    hostless None e = refl
    hostless (Some s) e = cc

    go : (t : Bool) → is_there (standing n.places l) ≡ t → l ≡ root (standing n.places) l
    go false e = sym (hostless (standing n.places l) e)
    go true e =
        let counted : 0 < bag coded_pair (place_pairs n.places) (l.site, l.k) =
        place_pair_found n.places l e in
        let low = (sound.below (l.site, l.k) (omega (arith, counted))).0 in
        let none = (sound.roots l.site low).1 in
        sym (ap (λ (q : Loc). or_itself (host_of (standing n.places q)) l)
        (sym (root_loc l l.site k refl)) ∙ ap (λ o. or_itself o l) none)
