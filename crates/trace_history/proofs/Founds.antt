-- The first ready rule and the first request that can be met give the event that comes first.
use Rattle.std.proofs.Common.{◌≡◌, ℕ, ◌+◌, ◌<◌, ◌≤◌, List, [], ◌∷◌, Option, Some, None, Bool, true}
use Rattle.std.proofs.Common.{false, cond, refl, ap, sym, ◌∙◌, subst, arith, ◌&&◌, ◌||◌, inl, inr}
use Rattle.std.proofs.Common.{is_some, length}
use Rattle.std.proofs.lemmas.Bool.{and_parts}
use Rattle.std.specs.List.{list_all}
use Rattle.chem_model.specs.declared.name.Loc.{Loc}
use Rattle.chem_model.specs.declared.name.Pat.{Pat}
use Rattle.chem_model.specs.declared.event.AtomId.{AtomId}
use Rattle.chem_model.specs.declared.event.RuleId.{RuleId}
use Rattle.chem_model.specs.declared.event.Event.{Event}
use Rattle.chem_model.specs.declared.event.Event.TheVariants as event
use Rattle.chem_model.specs.declared.numbered.NumberedRule.{NumberedRule}
use Rattle.chem_model.specs.declared.numbered.NumberedAtom.{NumberedAtom}
use Rattle.chem_model.specs.declared.numbered.Numbered.{Numbered}
use Rattle.chem_model.specs.Process.{Process, Msg, Par, Def, Go, Fail, Halt}
use Rattle.chem_model.specs.Fill.{Naming}
use Rattle.chem_model.specs.Solution.{live, root}
use Rattle.chem_model.specs.Numbered.{standing}
use Rattle.chem_model.specs.Apply.{atom_at, rule_at, received_at, received_all, react_received}
use Rattle.chem_model.specs.Apply.{react_rule, with_atom, move_atom, halt_atom, detect_atom, apply}
use Rattle.chem_model.specs.Sound.{IsSound}
use Rattle.chem_laws.proofs.Taking.{atom_found, rule_found}
use Rattle.trace_history.specs.First.{turns, atom_less, rule_less, atoms_less, request_of}
use Rattle.trace_history.specs.First.{requests_less, event_less, site_of, site_of_rule}
use Rattle.trace_history.specs.First.{site_of_atom, IsFirst}
use Rattle.chem_model.specs.Each.{IsIn}
use Rattle.book_store.specs.Walk.{IsFirstOf}
use Rattle.trace_history.specs.inside.Search.{AreLeast, turn, rule_before, request_before, event_of}
use Rattle.chem_causes.specs.Ready.{receives, is_met, is_ready, can_act}
use Rattle.book_store.specs.Older.{atom_before}
use Rattle.trace_history.proofs.Replays.{same_some}
use Rattle.trace_history.proofs.Order.{sooner_not, not_sooner, sooner_is}
use Rattle.book_store.proofs.Order.{less_asym, less_trans, less_same}
use Rattle.trace_history.proofs.FirstOf.{IsOrder}
use Rattle.chem_commit.specs.inside.Differ.{AtomsDiffer, RulesDiffer}
use Rattle.book_store.proofs.ByNumber.{atom_has, rule_has, member_found, rule_member_found}
use Rattle.trace_history.proofs.Least.{some_both, least_received, least_of_all, all_met}

-- ---- the orders are orders

pub messages_order : IsOrder atom_before
messages_order = record {
  asym = λ a b h. less_asym a.id.site a.id.k b.id.site b.id.k h;
  along = λ a b c h g. less_trans a.id.site a.id.k b.id.site b.id.k c.id.site c.id.k h g;
}

module _ (n : Numbered) (from : ℕ) where
  pub rules_order : IsOrder (rule_before n from)
  rules_order = record {
    asym = λ r s h.
        let f = sooner_is (turn n from r.loc) (turn n from s.loc) (rule_less r.id s.id) h in
        not_sooner (turn n from s.loc) (turn n from r.loc) (rule_less s.id r.id)
        f.0 (λ e. less_asym r.id.site r.id.k s.id.site s.id.k (f.1 (sym e)));
    along = λ r s t h g.
        let a = sooner_not (turn n from r.loc) (turn n from s.loc) (rule_less r.id s.id) h in
        let b = sooner_not (turn n from s.loc) (turn n from t.loc) (rule_less s.id t.id) g in
        not_sooner (turn n from r.loc) (turn n from t.loc) (rule_less r.id t.id) (omega arith)
        (λ e. less_trans r.id.site r.id.k s.id.site s.id.k t.id.site t.id.k (a.1 (omega arith))
        (b.1 (omega arith)));
  }

  pub requests_order : IsOrder (request_before n from)
  requests_order = record {
    asym = λ r s h.
        let f = sooner_is (turn n from r.loc) (turn n from s.loc) (atom_less r.id s.id) h in
        not_sooner (turn n from s.loc) (turn n from r.loc) (atom_less s.id r.id)
        f.0 (λ e. less_asym r.id.site r.id.k s.id.site s.id.k (f.1 (sym e)));
    along = λ r s t h g.
        let a = sooner_not (turn n from r.loc) (turn n from s.loc) (atom_less r.id s.id) h in
        let b = sooner_not (turn n from s.loc) (turn n from t.loc) (atom_less s.id t.id) g in
        not_sooner (turn n from r.loc) (turn n from t.loc) (atom_less r.id t.id) (omega arith)
        (λ e. less_trans r.id.site r.id.k s.id.site s.id.k t.id.site t.id.k (a.1 (omega arith))
        (b.1 (omega arith)));
  }

-- ---- what a possible event says

pub record Reacting (n : Numbered) (i : RuleId) (took : List AtomId) : Type 0 where
  pub rule : NumberedRule
  pub found : rule_at n.rules i ≡ Some rule
  pub lives : live (standing n.places) rule.loc ≡ true
  pub received : is_some (received_all n.atoms rule.loc rule.pats took) ≡ true

some_received : (n : Numbered) (r : NumberedRule) (took : List AtomId) (o : Option Naming)
    → is_some (react_received n r took o) ≡ is_some o
some_received n r took None = refl
some_received n r took (Some m) = refl

reacting_rule : (n : Numbered) (i : RuleId) (took : List AtomId) (o : Option NumberedRule)
    → rule_at n.rules i ≡ o → is_some (react_rule n took o) ≡ true → Reacting n i took
reacting_rule n i took None e h = cc
reacting_rule n i took (Some r) e h = go (live (standing n.places) r.loc) refl h
  where
    go : (t : Bool) → live (standing n.places) r.loc ≡ t
        → is_some (cond t (react_received n r took (received_all n.atoms r.loc r.pats took)) None)
        ≡ true → Reacting n i took
    go true c h' = record {
      rule = r;
      found = e;
      lives = c;
      received = sym (some_received n r took (received_all n.atoms r.loc r.pats took)) ∙ h';
    }
    go false c h' = cc

pub reacting : (n : Numbered) (i : RuleId) (took : List AtomId)
    → is_some (apply n (event.React i took)) ≡ true → Reacting n i took
reacting n i took h = reacting_rule n i took (rule_at n.rules i) refl h

pub is_reacting : (n : Numbered) (i : RuleId) (took : List AtomId) (r : NumberedRule)
    → rule_at n.rules i ≡ Some r → live (standing n.places) r.loc ≡ true
    → is_some (received_all n.atoms r.loc r.pats took) ≡ true
    → is_some (apply n (event.React i took)) ≡ true
is_reacting n i took r e c h =
    ap (λ o. is_some (react_rule n took o)) e
    ∙ ap
    (λ t. is_some (cond t (react_received n r took (received_all n.atoms r.loc r.pats took)) None))
    c
    ∙ some_received n r took (received_all n.atoms r.loc r.pats took)
    ∙ h

-- a rule that reacts is ready
pub ready : (n : Numbered) (i : RuleId) (took : List AtomId) (a : Reacting n i took)
    → is_ready n a.rule ≡ true
ready n i took a = ap (λ t. t && list_all (is_met n.atoms a.rule.loc) a.rule.pats) a.lives
    ∙ all_met n.atoms a.rule.loc a.rule.pats took a.received

-- the site at which an event is possible, and who stands there
pub record Requesting (n : Numbered) (j : AtomId) : Type 0 where
  pub atom : NumberedAtom
  pub found : atom_at n.atoms j ≡ Some atom
  pub has : atom.id ≡ j
  pub acts : can_act n atom ≡ true

or_first : (a b c : Bool) → a ≡ true → a || (b || c) ≡ true
or_first a b c e = ap (λ t. t || (b || c)) e

or_second : (a b c : Bool) → b ≡ true → a || (b || c) ≡ true
or_second true b c e = refl
or_second false b c e = ap (λ t. t || c) e

or_third : (a b c : Bool) → c ≡ true → a || (b || c) ≡ true
or_third true b c e = refl
or_third false true c e = refl
or_third false false c e = e

moving : (n : Numbered) (j : AtomId) (o : Option NumberedAtom) → atom_at n.atoms j ≡ o
    → is_some (with_atom o (move_atom n j)) ≡ true → Requesting n j
moving n j None e h = cc
moving n j (Some a) e h =
    let has = atom_has n.atoms j a e in
    record {
      atom = a;
      found = e;
      has = has;
      acts = or_first (is_some (move_atom n a.id a.loc a.term))
          (is_some (halt_atom n a.id a.loc a.term)) (is_some (detect_atom n a.id a.loc a.term))
          (ap (λ i. is_some (move_atom n i a.loc a.term)) has ∙ h);
    }

halting : (n : Numbered) (j : AtomId) (o : Option NumberedAtom) → atom_at n.atoms j ≡ o
    → is_some (with_atom o (halt_atom n j)) ≡ true → Requesting n j
halting n j None e h = cc
halting n j (Some a) e h =
    let has = atom_has n.atoms j a e in
    record {
      atom = a;
      found = e;
      has = has;
      acts = or_second (is_some (move_atom n a.id a.loc a.term))
          (is_some (halt_atom n a.id a.loc a.term)) (is_some (detect_atom n a.id a.loc a.term))
          (ap (λ i. is_some (halt_atom n i a.loc a.term)) has ∙ h);
    }

detecting : (n : Numbered) (j : AtomId) (o : Option NumberedAtom) → atom_at n.atoms j ≡ o
    → is_some (with_atom o (detect_atom n j)) ≡ true → Requesting n j
detecting n j None e h = cc
detecting n j (Some a) e h =
    let has = atom_has n.atoms j a e in
    record {
      atom = a;
      found = e;
      has = has;
      acts = or_third (is_some (move_atom n a.id a.loc a.term))
          (is_some (halt_atom n a.id a.loc a.term)) (is_some (detect_atom n a.id a.loc a.term))
          (ap (λ i. is_some (detect_atom n i a.loc a.term)) has ∙ h);
    }

-- an event that is no reaction is the one of its request
pub requesting : (n : Numbered) (f : Event) (j : AtomId) → request_of f ≡ Some j
    → is_some (apply n f) ≡ true → Requesting n j
requesting n (event.React i took) j e h = cc
requesting n (event.Move i) j e h =
    let same : i ≡ j = cc in
    moving n j (atom_at n.atoms j) refl (ap (λ x. is_some (apply n (event.Move x))) (sym same) ∙ h)
requesting n (event.Halt i) j e h =
    let same : i ≡ j = cc in
    halting n j (atom_at n.atoms j) refl (ap (λ x. is_some (apply n (event.Halt x))) (sym same) ∙ h)
requesting n (event.Detect i) j e h =
    let same : i ≡ j = cc in
    detecting n j (atom_at n.atoms j) refl
    (ap (λ x. is_some (apply n (event.Detect x))) (sym same) ∙ h)

site_of_request : (n : Numbered) (f : Event) (j : AtomId) → request_of f ≡ Some j
    → site_of n f ≡ site_of_atom n (atom_at n.atoms j)
site_of_request n (event.React i took) j e = cc
site_of_request n (event.Move i) j e =
    let same : i ≡ j = cc in
    ap (λ x. site_of_atom n (atom_at n.atoms x)) same
site_of_request n (event.Halt i) j e =
    let same : i ≡ j = cc in
    ap (λ x. site_of_atom n (atom_at n.atoms x)) same
site_of_request n (event.Detect i) j e =
    let same : i ≡ j = cc in
    ap (λ x. site_of_atom n (atom_at n.atoms x)) same

pub less_by_request : (f e : Event) (j i : AtomId) → request_of f ≡ Some j → request_of e ≡ Some i
    → event_less f e ≡ atom_less j i
less_by_request (event.React x took) e j i g h = cc
less_by_request (event.Move x) e j i g h =
    ap (λ o. requests_less o (request_of e)) g ∙ ap (requests_less (Some j)) h
less_by_request (event.Halt x) e j i g h =
    ap (λ o. requests_less o (request_of e)) g ∙ ap (requests_less (Some j)) h
less_by_request (event.Detect x) e j i g h =
    ap (λ o. requests_less o (request_of e)) g ∙ ap (requests_less (Some j)) h

-- an event is a reaction, or it is the one of a request
pub data Kind : Event → Type 0 where
  reaction : (i : RuleId) (took : List AtomId) → Kind (event.React i took)
  request : {f : Event} (j : AtomId) → request_of f ≡ Some j → Kind f

pub kind : (f : Event) → Kind f
kind (event.React i took) = reaction i took
kind (event.Move j) = request j refl
kind (event.Halt j) = request j refl
kind (event.Detect j) = request j refl

or_left : (a : Bool) → a || (false || false) ≡ true → a ≡ true
or_left true h = refl
or_left false h = h

-- a request that can be met makes its event possible
meets : (n : Numbered) (a : NumberedAtom) (p : Process) (e : Event) → a.term ≡ p
    → event_of a.id p ≡ Some e → atom_at n.atoms a.id ≡ Some a → can_act n a ≡ true
    → (is_some (apply n e) ≡ true) × (request_of e ≡ Some a.id)
meets n a (Go b k) e is of found acts =
    let same : event.Move a.id ≡ e = same_some (event.Move a.id) e of in
    let can : is_some (move_atom n a.id a.loc (Go b k)) ≡ true =
    or_left (is_some (move_atom n a.id a.loc (Go b k))) (ap (λ q. is_some (move_atom n a.id a.loc q)
    || (is_some (halt_atom n a.id a.loc q) || is_some (detect_atom n a.id a.loc q))) (sym is)
    ∙ acts) in (
      ap (λ f. is_some (apply n f)) (sym same)
          ∙ ap (λ o. is_some (with_atom o (move_atom n a.id))) found
          ∙ ap (λ q. is_some (move_atom n a.id a.loc q)) is ∙ can,
      ap request_of (sym same),
    )
meets n a Halt e is of found acts =
    let same : event.Halt a.id ≡ e = same_some (event.Halt a.id) e of in
    let can : is_some (halt_atom n a.id a.loc Halt) ≡ true =
    or_right (is_some (halt_atom n a.id a.loc Halt)) (ap (λ q. is_some (move_atom n a.id a.loc q)
    || (is_some (halt_atom n a.id a.loc q) || is_some (detect_atom n a.id a.loc q))) (sym is)
    ∙ acts) in (
      ap (λ f. is_some (apply n f)) (sym same)
          ∙ ap (λ o. is_some (with_atom o (halt_atom n a.id))) found
          ∙ ap (λ q. is_some (halt_atom n a.id a.loc q)) is ∙ can,
      ap request_of (sym same),
    )
  where
    or_right : (b : Bool) → b || false ≡ true → b ≡ true
    or_right true h = refl
    or_right false h = h
meets n a (Fail b k) e is of found acts =
    let same : event.Detect a.id ≡ e = same_some (event.Detect a.id) e of in
    let can : is_some (detect_atom n a.id a.loc (Fail b k)) ≡ true =
    ap (λ q. is_some (move_atom n a.id a.loc q)
    || (is_some (halt_atom n a.id a.loc q) || is_some (detect_atom n a.id a.loc q))) (sym is)
    ∙ acts in (
      ap (λ f. is_some (apply n f)) (sym same)
          ∙ ap (λ o. is_some (with_atom o (detect_atom n a.id))) found
          ∙ ap (λ q. is_some (detect_atom n a.id a.loc q)) is ∙ can,
      ap request_of (sym same),
    )
meets n a (Msg x vs) e is of found acts = cc
meets n a (Par ps) e is of found acts = cc
meets n a (Def ds p) e is of found acts = cc

-- a request that can be met has an event
pub has_event : (n : Numbered) (i : AtomId) (l : Loc) (p : Process) → event_of i p ≡ None
    → is_some (move_atom n i l p) || (is_some (halt_atom n i l p) || is_some (detect_atom n i l p))
    ≡ false
has_event n i l (Go b k) e = cc
has_event n i l Halt e = cc
has_event n i l (Fail b k) e = cc
has_event n i l (Msg x vs) e = refl
has_event n i l (Par ps) e = refl
has_event n i l (Def ds p) e = refl

pub rule_ids : (i j : RuleId) → (i.site ≡ j.site) × (i.k ≡ j.k) → i ≡ j
rule_ids i j h = λ t. record { site = h.0 t; k = h.1 t }

module _ (n : Numbered) (sound : IsSound n) (from : ℕ) where
  pub atoms_differ : AtomsDiffer n.atoms
  atoms_differ p = omega (arith, sound.different p)

  pub rules_differ : RulesDiffer n.rules
  rules_differ p = omega (arith, sound.different p)

  -- no ready rule: no reaction
  no_rule : IsFirstOf (is_ready n) (rule_before n from) n.rules None
      → (i : RuleId) (took : List AtomId) → Reacting n i took → ⊥
  no_rule h i took a =
      let not : is_ready n a.rule ≡ false =
      rule_found (λ r. is_ready n r ≡ false) n.rules i a.rule a.found h in
      let is : is_ready n a.rule ≡ true = ready n i took a in cc

  rule_after : (r : NumberedRule) → IsFirstOf (is_ready n) (rule_before n from) n.rules (Some r)
      → (i : RuleId) (took : List AtomId) (a : Reacting n i took)
      → rule_before n from a.rule r ≡ false
  rule_after r h i took a = rule_found (λ s. is_ready n s ≡ true → rule_before n from s r ≡ false)
      n.rules i a.rule a.found h.2 (ready n i took a)

  no_request : IsFirstOf (can_act n) (request_before n from) n.atoms None → (j : AtomId)
      → Requesting n j → ⊥
  no_request h j q =
      let not : can_act n q.atom ≡ false =
      atom_found (λ a. can_act n a ≡ false) n.atoms j q.atom q.found h in
      let is : can_act n q.atom ≡ true = q.acts in cc

  request_after : (a : NumberedAtom)
      → IsFirstOf (can_act n) (request_before n from) n.atoms (Some a)
      → (j : AtomId) (q : Requesting n j) → request_before n from q.atom a ≡ false
  request_after a h j q = atom_found (λ b. can_act n b ≡ true → request_before n from b a ≡ false)
      n.atoms j q.atom q.found h.2 q.acts

  -- where neither is found no event is possible
  pub none_possible : IsFirstOf (is_ready n) (rule_before n from) n.rules None
      → IsFirstOf (can_act n) (request_before n from) n.atoms None → (f : Event)
      → is_some (apply n f) ≡ false
  none_possible g h f = go f (kind f) (is_some (apply n f)) refl
    where
      go : (f : Event) → Kind f → (t : Bool) → is_some (apply n f) ≡ t → t ≡ false
      go f k false c = refl
      go f (reaction i took) true c = absurd (no_rule g i took (reacting n i took c))
      go f (request j e) true c = absurd (no_request h j (requesting n f j e c))

  -- the turn of an event that is possible
  rule_turn : (t : ℕ) (o : Option NumberedRule)
      → IsFirstOf (is_ready n) (rule_before n from) n.rules o
      → ((r : NumberedRule) → o ≡ Some r → t ≤ turn n from r.loc)
      → (i : RuleId) (took : List AtomId) (a : Reacting n i took) → t ≤ turn n from a.rule.loc
  rule_turn t None g h i took a = absurd (no_rule g i took a)
  rule_turn t (Some r) g h i took a =
      let b = sooner_not (turn n from a.rule.loc) (turn n from r.loc) (rule_less a.rule.id r.id)
      (rule_after r g i took a) in
      let low = h r refl in omega arith

  request_turn : (t : ℕ) (o : Option NumberedAtom)
      → IsFirstOf (can_act n) (request_before n from) n.atoms o
      → ((a : NumberedAtom) → o ≡ Some a → t ≤ turn n from a.loc)
      → (j : AtomId) (q : Requesting n j) → t ≤ turn n from q.atom.loc
  request_turn t None g h j q = absurd (no_request g j q)
  request_turn t (Some a) g h j q =
      let b = sooner_not (turn n from q.atom.loc) (turn n from a.loc) (atom_less q.atom.id a.id)
      (request_after a g j q) in
      let low = h a refl in omega arith

  -- the site of an event that is possible
  pub rule_site : (i : RuleId) (took : List AtomId) (a : Reacting n i took) (s : ℕ)
      → site_of n (event.React i took) ≡ Some s → (root (standing n.places) a.rule.loc).site ≡ s
  rule_site i took a s at = same_some (root (standing n.places) a.rule.loc).site s
      (ap (site_of_rule n) (sym a.found) ∙ at)

  pub request_site : (f : Event) (j : AtomId) (q : Requesting n j) (s : ℕ) → request_of f ≡ Some j
      → site_of n f ≡ Some s → (root (standing n.places) q.atom.loc).site ≡ s
  request_site f j q s e at = same_some (root (standing n.places) q.atom.loc).site s
      (ap (site_of_atom n) (sym q.found) ∙ sym (site_of_request n f j e) ∙ at)

  abbrev turn_at : ℕ → ℕ
  turn_at s = turns (length n.counts) from s

  -- no event is possible at a site with an earlier turn
  no_earlier : (t : ℕ) (o : Option NumberedRule) (q : Option NumberedAtom)
      → IsFirstOf (is_ready n) (rule_before n from) n.rules o
      → IsFirstOf (can_act n) (request_before n from) n.atoms q
      → ((r : NumberedRule) → o ≡ Some r → t ≤ turn n from r.loc)
      → ((a : NumberedAtom) → q ≡ Some a → t ≤ turn n from a.loc)
      → (f : Event) (s : ℕ) → Kind f → is_some (apply n f) ≡ true → site_of n f ≡ Some s
      → t ≤ turn_at s
  no_earlier t o q g h k l f s (reaction i took) p at =
      let a = reacting n i took p in
      subst (λ x. t ≤ turn_at x) (rule_site i took a s at) (rule_turn t o g k i took a)
  no_earlier t o q g h k l f s (request j e) p at =
      let b = requesting n f j e p in
      subst (λ x. t ≤ turn_at x) (request_site f j b s e at) (request_turn t q h l j b)

  -- ---- a reaction comes first

  module _ (r : NumberedRule) (took : List AtomId) (q : Option NumberedAtom)
      (g : IsFirstOf (is_ready n) (rule_before n from) n.rules (Some r))
      (h : IsFirstOf (can_act n) (request_before n from) n.atoms q)
      (least : AreLeast n.atoms r.loc r.pats took)
      (before : (a : NumberedAtom) → q ≡ Some a → turn n from r.loc ≤ turn n from a.loc) where
    rule_there : rule_at n.rules r.id ≡ Some r
    rule_there = rule_member_found n.rules rules_differ r g.0

    lesser_rule : (i : RuleId) (taken : List AtomId) → (a : Reacting n i taken)
        → (root (standing n.places) a.rule.loc).site ≡ (root (standing n.places) r.loc).site
        → (u : Bool) → rule_less r.id i ≡ u
        → rule_less i r.id || (cond u false (atoms_less taken took)) ≡ false
    lesser_rule i taken a at u c = go u c
      where
        has : a.rule.id ≡ i
        has = rule_has n.rules i a.rule a.found

        low : rule_less i r.id ≡ false
        low =
            let b = sooner_not (turn n from a.rule.loc) (turn n from r.loc)
            (rule_less a.rule.id r.id) (rule_after r g i taken a) in
            ap (λ x. rule_less x r.id) (sym has) ∙ b.1 (ap turn_at at)

        go : (u : Bool) → rule_less r.id i ≡ u
            → rule_less i r.id || (cond u false (atoms_less taken took)) ≡ false
        go true c = ap (λ t. t || false) low
        go false c =
            let ids : i ≡ r.id = rule_ids i r.id (less_same i.site i.k r.id.site r.id.k low c) in
            let rules : a.rule ≡ r =
            same_some a.rule r (sym a.found ∙ ap (rule_at n.rules) ids ∙ rule_there) in
            let received : is_some (received_all n.atoms r.loc r.pats taken) ≡ true =
            ap (λ (x : NumberedRule). is_some (received_all n.atoms x.loc x.pats taken)) (sym rules)
            ∙ a.received in
            ap (λ t. t || atoms_less taken took) low
            ∙ least_of_all n.atoms r.loc r.pats took taken least received

    no_lesser_rule : (f : Event) → Kind f → is_some (apply n f) ≡ true
        → site_of n f ≡ Some (root (standing n.places) r.loc).site
        → event_less f (event.React r.id took) ≡ false
    no_lesser_rule f (reaction i taken) p at =
        let a = reacting n i taken p in
        lesser_rule i taken a (rule_site i taken a (root (standing n.places) r.loc).site at)
        (rule_less r.id i) refl
    no_lesser_rule f (request j e) p at = no_less f j e
      where
        no_less : (f : Event) (j : AtomId) → request_of f ≡ Some j
            → event_less f (event.React r.id took) ≡ false
        no_less (event.React i taken) j e = cc
        no_less (event.Move i) j e = refl
        no_less (event.Halt i) j e = refl
        no_less (event.Detect i) j e = refl

    pub react_first : IsFirst n from (root (standing n.places) r.loc).site (event.React r.id took)
    react_first =
        let stands =
        and_parts (live (standing n.places) r.loc) (list_all (is_met n.atoms r.loc) r.pats) g.1 in
        record {
          possible = is_reacting n r.id took r rule_there
              stands.0 (least_received n.atoms atoms_differ r.loc r.pats took least);
          at_site = ap (site_of_rule n) rule_there;
          no_earlier_site = λ f s p at. no_earlier (turn n from r.loc) (Some r) q g h
              (λ x e. let same : r ≡ x = same_some r x e in
              subst (λ (y : NumberedRule). turn n from r.loc ≤ turn n from y.loc) same
              (omega arith)) before f s (kind f) p at;
          no_lesser = λ f p at. no_lesser_rule f (kind f) p at;
        }

  -- ---- a request comes first

  module _ (a : NumberedAtom) (e : Event) (o : Option NumberedRule)
      (of : event_of a.id a.term ≡ Some e)
      (g : IsFirstOf (is_ready n) (rule_before n from) n.rules o)
      (h : IsFirstOf (can_act n) (request_before n from) n.atoms (Some a))
      (before : (r : NumberedRule) → o ≡ Some r → turn n from a.loc < turn n from r.loc) where
    atom_there : atom_at n.atoms a.id ≡ Some a
    atom_there = member_found n.atoms atoms_differ a h.0

    met : (is_some (apply n e) ≡ true) × (request_of e ≡ Some a.id)
    met = meets n a a.term e refl of atom_there h.1

    no_lesser_request : (f : Event) → Kind f → is_some (apply n f) ≡ true
        → site_of n f ≡ Some (root (standing n.places) a.loc).site → event_less f e ≡ false
    no_lesser_request f (reaction i took) p at =
        let x = reacting n i took p in
        let same : turn n from x.rule.loc ≡ turn n from a.loc =
        ap turn_at (rule_site i took x (root (standing n.places) a.loc).site at) in
        let late = rule_turn (turn n from a.loc + 1) o g
        (λ r is. let b = before r is in omega arith) i took x in
        absurd (omega arith)
    no_lesser_request f (request j k) p at =
        let q = requesting n f j k p in
        let b = sooner_not (turn n from q.atom.loc) (turn n from a.loc) (atom_less q.atom.id a.id)
        (request_after a h j q) in
        less_by_request f e j a.id k met.1 ∙ ap (λ x. atom_less x a.id) (sym q.has)
        ∙ b.1 (ap turn_at (request_site f j q (root (standing n.places) a.loc).site k at))

    pub request_first : IsFirst n from (root (standing n.places) a.loc).site e
    request_first = record {
      possible = met.0;
      at_site = site_of_request n e a.id met.1 ∙ ap (site_of_atom n) atom_there;
      no_earlier_site = λ f s p at.
          no_earlier (turn n from a.loc) o (Some a) g h (λ r is. let b = before r is in omega arith)
          (λ x is. let same : a ≡ x = same_some a x is in
          subst (λ (y : NumberedAtom). turn n from a.loc ≤ turn n from y.loc) same (omega arith)) f
          s (kind f) p at;
      no_lesser = λ f p at. no_lesser_request f (kind f) p at;
    }

-- ---- where a rule is ready or a request can be met an event is possible

pub met_by_one : (l : Loc) (p : Pat) (atoms : List NumberedAtom) → is_met atoms l p ≡ true
    → (a : NumberedAtom) × IsIn a atoms × (receives l p a ≡ true)
met_by_one l p [] h = cc
met_by_one l p (a ∷ atoms) h = go (receives l p a) refl h (met_by_one l p atoms)
  where
    go : (t : Bool) → receives l p a ≡ t → t || is_met atoms l p ≡ true
        → (is_met atoms l p ≡ true → (b : NumberedAtom) × IsIn b atoms × (receives l p b ≡ true))
        → (b : NumberedAtom) × IsIn b (a ∷ atoms) × (receives l p b ≡ true)
    go true c h' ih = (a, inl refl, c)
    go false c h' ih = let b = ih h' in (b.0, inr b.1, b.2)

taken : (atoms : List NumberedAtom) → AtomsDiffer atoms → (l : Loc) (ps : List Pat)
    → list_all (is_met atoms l) ps ≡ true
    → (took : List AtomId) × (is_some (received_all atoms l ps took) ≡ true)
taken atoms d l [] h = ([], refl)
taken atoms d l (p ∷ ps) h =
    let f = and_parts (is_met atoms l p) (list_all (is_met atoms l) ps) h in
    let a = met_by_one l p atoms f.0 in
    let rest = taken atoms d l ps f.1 in
    let found = member_found atoms d a.0 a.1 in (
      a.0.id ∷ rest.0,
      some_both (received_at l p (atom_at atoms a.0.id)) (received_all atoms l ps rest.0)
          ∙ ap (λ t. t && is_some (received_all atoms l ps rest.0))
          (ap (λ o. is_some (received_at l p o)) found ∙ a.2)
          ∙ rest.1,
    )

module _ (n : Numbered) (sound : IsSound n) (from : ℕ) where
  pub rule_possible : (r : NumberedRule)
      → IsFirstOf (is_ready n) (rule_before n from) n.rules (Some r)
      → (e : Event) × (is_some (apply n e) ≡ true)
  rule_possible r g =
      let stands =
      and_parts (live (standing n.places) r.loc) (list_all (is_met n.atoms r.loc) r.pats) g.1 in
      let took = taken n.atoms (atoms_differ n sound from) r.loc r.pats stands.1 in (
        event.React r.id took.0,
        is_reacting n r.id took.0 r (rule_member_found n.rules (rules_differ n sound from) r g.0)
            stands.0 took.1,
      )

  pub request_possible : (a : NumberedAtom)
      → IsFirstOf (can_act n) (request_before n from) n.atoms (Some a)
      → (e : Event) × (is_some (apply n e) ≡ true)
  request_possible a h = go (event_of a.id a.term) refl
    where
      go : (o : Option Event) → event_of a.id a.term ≡ o
          → (e : Event) × (is_some (apply n e) ≡ true)
      go None c = let not = has_event n a.id a.loc a.term c in let does = h.1 in cc
      go (Some e) c = (
        e,
        (meets n a a.term e refl c (member_found n.atoms (atoms_differ n sound from) a h.0) h.1).0,
      )
