-- What a reaction looks at and changes: only what stands under its root.
use Rattle.std.proofs.Common.{◌≡◌, ◌≢◌, ℕ, List, [], ◌∷◌, ◌++◌, Option, Some, None, Bool, true}
use Rattle.std.proofs.Common.{false, cond, refl, sym, ap, ◌∙◌}
use Rattle.std.specs.Prelude.{slice_index}
use Rattle.std.proofs.lemmas.List.{get_or-set_other}
use Rattle.chem_model.specs.declared.name.Loc.{Loc}
use Rattle.chem_model.specs.declared.name.Pat.{Pat}
use Rattle.chem_model.specs.declared.event.AtomId.{AtomId}
use Rattle.chem_model.specs.declared.event.RuleId.{RuleId}
use Rattle.chem_model.specs.declared.event.Event.TheVariants as event
use Rattle.chem_model.specs.declared.numbered.NumberedRule.{NumberedRule}
use Rattle.chem_model.specs.declared.numbered.NumberedAtom.{NumberedAtom}
use Rattle.chem_model.specs.declared.numbered.Numbered.{Numbered}
use Rattle.chem_model.specs.Each.{Each}
use Rattle.chem_model.specs.Fill.{Naming}
use Rattle.chem_model.specs.Solution.{Places, same_loc, is_there, host_of, or_itself, root, live}
use Rattle.chem_model.specs.Numbered.{standing}
use Rattle.chem_model.specs.Pour.{pour, pour_at}
use Rattle.chem_model.specs.Apply.{same_atom, same_rule, rule_at, atom_at, without, without_all}
use Rattle.chem_model.specs.Apply.{received, received_at, both_received, received_all}
use Rattle.chem_model.specs.Apply.{react_received, react_rule, apply}
use Rattle.chem_model.specs.Sound.{IsSound, IsRoot}
use Rattle.chem_laws.specs.Order.{HasAll, AreFound, body_made, Reacts, ReactionsTakeAndMake}
use Rattle.chem_laws.proofs.Within.{same_loc_is}
use Rattle.chem_laws.proofs.Places.{standing_left, live_parts, live_kept, root_is, root_loc}
use Rattle.chem_laws.proofs.Taking.{same_atom_is, found-without}

-- ---- a reaction that is possible

abbrev pub taken_out : Numbered → List AtomId → Numbered
taken_out n took = record n { atoms = without_all took n.atoms }

abbrev pub after : Numbered → NumberedRule → List AtomId → Naming → Numbered
after n r took names = pour_at (taken_out n took) names r.loc r.body

pub record Reaction (n : Numbered) (r : NumberedRule) (took : List AtomId)
    (m : Numbered) : Type 0 where
  pub lives : live (standing n.places) r.loc ≡ true
  pub names : Naming
  pub receives : received_all n.atoms r.loc r.pats took ≡ Some names
  pub result : after n r took names ≡ m

pub reaction : (n m : Numbered) (i : RuleId) (took : List AtomId) (r : NumberedRule)
    → rule_at n.rules i ≡ Some r → apply n (event.React i took) ≡ Some m → Reaction n r took m
reaction n m i took r at_rule e =
    lives (live (standing n.places) r.loc) refl (ap (λ o. react_rule n took o) (sym at_rule) ∙ e)
  where
    takes : live (standing n.places) r.loc ≡ true → (t : Option Naming)
        → received_all n.atoms r.loc r.pats took ≡ t → react_received n r took t ≡ Some m
        → Reaction n r took m
    takes l None d e' = cc
    takes l (Some t) d e' =
        let same_m : after n r took t ≡ m = cc in
        record { lives = l; names = t; receives = d; result = same_m }

    lives : (b : Bool) → live (standing n.places) r.loc ≡ b
        → cond b (react_received n r took (received_all n.atoms r.loc r.pats took)) None ≡ Some m
        → Reaction n r took m
    lives true l e' = takes l (received_all n.atoms r.loc r.pats took) refl e'
    lives false l e' = cc

pub possible : (n : Numbered) (i : RuleId) (took : List AtomId) (r : NumberedRule) (names : Naming)
    → rule_at n.rules i ≡ Some r → live (standing n.places) r.loc ≡ true
    → received_all n.atoms r.loc r.pats took ≡ Some names
    → apply n (event.React i took) ≡ Some (after n r took names)
possible n i took r names at_rule lives receives =
    ap (λ o. react_rule n took o) at_rule
    ∙ ap (λ b. cond b (react_received n r took (received_all n.atoms r.loc r.pats took)) None) lives
    ∙ ap (react_received n r took) receives

-- ---- what is received comes from atoms at the rule's location

pub received_from : (l : Loc) (p : Pat) (o : Option NumberedAtom) (m : Naming)
    → received_at l p o ≡ Some m → (a : NumberedAtom) × (o ≡ Some a) × (a.loc ≡ l)
received_from l p None m e = cc
received_from l p (Some a) m e = go (same_loc a.loc l) refl e
  where
    go : (t : Bool) → same_loc a.loc l ≡ t → cond t (received p a.term) None ≡ Some m
        → (b : NumberedAtom) × (Some a ≡ Some b) × (b.loc ≡ l)
    go true s e' = (a, refl, same_loc_is a.loc l s)
    go false s e' = cc

pub received_same : (xs ys : List NumberedAtom) (l : Loc)
    → ((i : AtomId) (a : NumberedAtom) → atom_at xs i ≡ Some a → a.loc ≡ l → atom_at ys i ≡ Some a)
    → (ps : List Pat) (took : List AtomId) (m : Naming) → received_all xs l ps took ≡ Some m
    → received_all ys l ps took ≡ Some m
received_same xs ys l f [] [] m e = e
received_same xs ys l f [] (i ∷ took) m e = cc
received_same xs ys l f (p ∷ ps) [] m e = cc
received_same xs ys l f (p ∷ ps) (i ∷ took) m e = go (received_at l p (atom_at xs i)) refl
    (received_all xs l ps took) refl (λ u. received_same xs ys l f ps took u) e
  where
    go : (o : Option Naming) → received_at l p (atom_at xs i) ≡ o → (v : Option Naming)
        → received_all xs l ps took ≡ v
        → ((u : Naming) → received_all xs l ps took ≡ Some u → received_all ys l ps took ≡ Some u)
        → both_received o v ≡ Some m
        → both_received (received_at l p (atom_at ys i)) (received_all ys l ps took) ≡ Some m
    go None c v d ih e' = cc
    go (Some a) c None d ih e' = cc
    go (Some a) c (Some u) d ih e' =
        let from = received_from l p (atom_at xs i) a c in
        let here : received_at l p (atom_at ys i) ≡ Some a =
        ap (received_at l p) (f i from.0 from.1 from.2) ∙ ap (received_at l p) (sym from.1) ∙ c in
        ap (λ o. both_received o (received_all ys l ps took)) here
        ∙ ap (both_received (Some a)) (ih u d) ∙ e'

-- the atoms that are taken
pub record Gone (atoms : List NumberedAtom) (l : Loc) (took : List AtomId) : Type 0 where
  pub gone : List NumberedAtom
  pub found : AreFound atoms took gone
  pub at_l : Each (λ (a : NumberedAtom). a.loc ≡ l) gone

pub gone_of :
    (atoms : List NumberedAtom) (l : Loc) (ps : List Pat) (took : List AtomId) (m : Naming)
    → received_all atoms l ps took ≡ Some m → Gone atoms l took
gone_of atoms l [] [] m e = record { gone = []; found = tt; at_l = tt }
gone_of atoms l [] (i ∷ took) m e = cc
gone_of atoms l (p ∷ ps) [] m e = cc
gone_of atoms l (p ∷ ps) (i ∷ took) m e = go (received_at l p (atom_at atoms i)) refl
    (received_all atoms l ps took) refl (λ u. gone_of atoms l ps took u) e
  where
    go : (o : Option Naming) → received_at l p (atom_at atoms i) ≡ o → (v : Option Naming)
        → received_all atoms l ps took ≡ v
        → ((u : Naming) → received_all atoms l ps took ≡ Some u → Gone atoms l took)
        → both_received o v ≡ Some m → Gone atoms l (i ∷ took)
    go None c v d ih e' = cc
    go (Some a) c None d ih e' = cc
    go (Some a) c (Some u) d ih e' =
        let from = received_from l p (atom_at atoms i) a c in
        let rest = ih u d in
        record {
          gone = from.0 ∷ rest.gone;
          found = (from.1, rest.found);
          at_l = (from.2, rest.at_l);
        }

pub reactions_take_and_make : ReactionsTakeAndMake
reactions_take_and_make n m i took r at_rule e =
    let x = reaction n m i took r at_rule e in
    let g = gone_of n.atoms r.loc r.pats took x.names x.receives in
    let now : Reacts (root (standing n.places) r.loc).site n (event.React i took)
    g.gone (body_made n r x.names) m =
    record {
      id = i;
      took = took;
      rule = r;
      names = x.names;
      is = refl;
      at_rule = at_rule;
      at_site = refl;
      receives = x.receives;
      found = g.found;
      makes = refl;
      applies = e;
    } in
    (g.gone, body_made n r x.names, now)

-- ---- looking up in a list that grows

pub rule_left : (xs ys : List NumberedRule) (i : RuleId) (r : NumberedRule) → rule_at xs i ≡ Some r
    → rule_at (xs ++ ys) i ≡ Some r
rule_left [] ys i r e = cc
rule_left (x ∷ xs) ys i r e = go (same_rule x.id i) (rule_left xs ys i r) e
  where
    go : (t : Bool) → (rule_at xs i ≡ Some r → rule_at (xs ++ ys) i ≡ Some r)
        → cond t (Some x) (rule_at xs i) ≡ Some r → cond t (Some x) (rule_at (xs ++ ys) i) ≡ Some r
    go true ih e' = e'
    go false ih e' = ih e'

pub rule_right : (xs ys : List NumberedRule) (i : RuleId) → rule_at xs i ≡ None
    → rule_at (xs ++ ys) i ≡ rule_at ys i
rule_right [] ys i e = refl
rule_right (x ∷ xs) ys i e = go (same_rule x.id i) (rule_right xs ys i) e
  where
    go : (t : Bool) → (rule_at xs i ≡ None → rule_at (xs ++ ys) i ≡ rule_at ys i)
        → cond t (Some x) (rule_at xs i) ≡ None
        → cond t (Some x) (rule_at (xs ++ ys) i) ≡ rule_at ys i
    go true ih e' = cc
    go false ih e' = ih e'

pub atom_left : (xs ys : List NumberedAtom) (i : AtomId) (a : NumberedAtom) → atom_at xs i ≡ Some a
    → atom_at (xs ++ ys) i ≡ Some a
atom_left [] ys i r e = cc
atom_left (x ∷ xs) ys i r e = go (same_atom x.id i) (atom_left xs ys i r) e
  where
    go : (t : Bool) → (atom_at xs i ≡ Some r → atom_at (xs ++ ys) i ≡ Some r)
        → cond t (Some x) (atom_at xs i) ≡ Some r → cond t (Some x) (atom_at (xs ++ ys) i) ≡ Some r
    go true ih e' = e'
    go false ih e' = ih e'

pub atom_right : (xs ys : List NumberedAtom) (i : AtomId) → atom_at xs i ≡ None
    → atom_at (xs ++ ys) i ≡ atom_at ys i
atom_right [] ys i e = refl
atom_right (x ∷ xs) ys i e = go (same_atom x.id i) (atom_right xs ys i) e
  where
    go : (t : Bool) → (atom_at xs i ≡ None → atom_at (xs ++ ys) i ≡ atom_at ys i)
        → cond t (Some x) (atom_at xs i) ≡ None
        → cond t (Some x) (atom_at (xs ++ ys) i) ≡ atom_at ys i
    go true ih e' = cc
    go false ih e' = ih e'

-- ---- roots

module _ (n : Numbered) (sound : IsSound n) where
  abbrev pl : Places
  pl = standing n.places

  pub root_of_root : (h : Loc) → IsRoot n h → root pl h ≡ h
  root_of_root h at_root =
      let no_host : host_of (pl h) ≡ None =
      ap (λ q. host_of (pl q)) (sym (root_loc h h.site at_root.0 refl))
      ∙ (sound.roots h.site at_root.1).1 in
      ap (λ o. or_itself o h) no_host

-- ---- a reaction elsewhere, where all that it looks at stands

module _ (t : ℕ) (n m : Numbered) (has : HasAll t n m) (sound : IsSound n) where
  root_same : (l : Loc) → is_there (standing n.places l) ≡ true
      → (root (standing n.places) l).site ≡ t
      → root (standing m.places) l ≡ root (standing n.places) l
  root_same l there site = ap (λ o. or_itself (host_of o) l) (has.places l there site)

  live_same : (l : Loc) → live (standing n.places) l ≡ true → (root (standing n.places) l).site ≡ t
      → live (standing m.places) l ≡ true
  live_same l lives site =
      let there = (live_parts (standing n.places) l lives).0 in
      let h = root_is n sound l there in
      let at_root = has.places (root (standing n.places) l) h.1
      (ap (λ (q : Loc). q.site) (root_of_root n sound (root (standing n.places) l) h.0) ∙ site) in
      (live_kept (standing n.places) (standing m.places) l (has.places l there site) at_root
      lives).0

  pub record Again (i : RuleId) (r : NumberedRule) (took : List AtomId)
      (names : Naming) : Type 0 where
    pub at_rule : rule_at m.rules i ≡ Some r
    pub applies : apply m (event.React i took) ≡ Some (after m r took names)
    pub at_root : root (standing m.places) r.loc ≡ root (standing n.places) r.loc
    pub makes : body_made m r names ≡ body_made n r names
    pub lives : live (standing m.places) r.loc ≡ true
    pub receives : received_all m.atoms r.loc r.pats took ≡ Some names

  pub again : (i : RuleId) (took : List AtomId) (r : NumberedRule) (n1 : Numbered)
      → rule_at n.rules i ≡ Some r → (root (standing n.places) r.loc).site ≡ t
      → (x : Reaction n r took n1) → Again i r took x.names
  again i took r n1 at_rule site x =
      let there = (live_parts (standing n.places) r.loc x.lives).0 in
      let there_rule = has.rules i r at_rule site in
      let lives = live_same r.loc x.lives site in
      let h = root (standing n.places) r.loc in
      let roots = root_same r.loc there site in
      let receives = received_same n.atoms m.atoms r.loc (λ j a e at_l.
      has.atoms j a e (ap (λ (q : Loc). (root (standing n.places) q).site) at_l ∙ site)) r.pats took
      x.names x.receives in
      let count : slice_index m.counts h.site ≡ slice_index n.counts h.site =
      ap (λ (s : ℕ). slice_index m.counts s) site ∙ has.count
      ∙ sym (ap (λ (s : ℕ). slice_index n.counts s) site) in
      record {
        at_rule = there_rule;
        applies = possible m i took r x.names there_rule lives receives;
        at_root = roots;
        makes =
            ap
            (λ (q : Loc). pour m.seen q.site q x.names r.loc (slice_index m.counts q.site) r.body)
            roots
            ∙ ap (λ (seen : List ℕ).
            pour seen h.site h x.names r.loc (slice_index m.counts h.site) r.body) has.seen
            ∙ ap (λ (k : ℕ). pour n.seen h.site h x.names r.loc k r.body) count;
        lives = lives;
        receives = receives;
      }

-- ---- what stands under the other roots stays

-- another one is found where none that goes is it
pub still_found : (took : List AtomId) (atoms : List NumberedAtom) (i : AtomId)
    → Each (λ (j : AtomId). same_atom j i ≡ false) took
    → atom_at (without_all took atoms) i ≡ atom_at atoms i
still_found [] atoms i h = refl
still_found (j ∷ took) atoms i h =
    still_found took (without j atoms) i h.1 ∙ found-without j i atoms h.0

-- where each that goes stands elsewhere, none of them is it
pub none_is : (atoms : List NumberedAtom) (l : Loc) (took : List AtomId) (gone : List NumberedAtom)
    → AreFound atoms took gone → Each (λ (a : NumberedAtom). a.loc ≡ l) gone
    → (i : AtomId) (a : NumberedAtom) → atom_at atoms i ≡ Some a → (a.loc ≡ l → ⊥)
    → Each (λ (j : AtomId). same_atom j i ≡ false) took
none_is atoms l [] gone f g i a e apart = tt
none_is atoms l (j ∷ took) [] f g i a e apart = absurd f
none_is atoms l (j ∷ took) (b ∷ gone) f g i a e apart =
    (go (same_atom j i) refl, none_is atoms l took gone f.1 g.1 i a e apart)
  where
    go : (t : Bool) → same_atom j i ≡ t → t ≡ false
    go false c = refl
    go true c =
        let s : Some b ≡ Some a =
        sym f.0 ∙ ap (λ (k : AtomId). atom_at atoms k) (same_atom_is j i c) ∙ e in
        let same : b ≡ a = cc in
        absurd (apart (ap (λ (x : NumberedAtom). x.loc) (sym same) ∙ g.0))

module _ (n : Numbered) (r : NumberedRule) (took : List AtomId) (n1 : Numbered)
    (x : Reaction n r took n1) where
  abbrev s : ℕ
  s = (root (standing n.places) r.loc).site

  pub others_stay : (u : ℕ) → u ≢ s → HasAll u n (after n r took x.names)
  others_stay u apart =
      let a = body_made n r x.names in
      let g = gone_of n.atoms r.loc r.pats took x.names x.receives in
      record {
        seen = refl;
        count = get_or-set_other n.counts s u a.next 0 apart;
        places = λ l there site. standing_left n.places a.births l there;
        rules = λ i q e site. rule_left n.rules a.rules i q e;
        atoms = λ i b e site.
            let away : b.loc ≡ r.loc → ⊥ =
            λ same. apart (sym site ∙ ap (λ (l : Loc). (root (standing n.places) l).site) same) in
            atom_left (without_all took n.atoms) a.atoms i b (still_found took n.atoms i
            (none_is n.atoms r.loc took g.gone g.found g.at_l i b e away) ∙ e);
      }
