-- In a sound solution the event that comes first is one.
use Rattle.std.proofs.Common.{◌≡◌, ℕ, ◌<◌, List, [], ◌∷◌, Option, Some, None, Bool, true, false}
use Rattle.std.proofs.Common.{cond, refl, ap, sym, ◌∙◌, subst, arith, ◌||◌, is_some, length}
use Rattle.std.proofs.lemmas.Bool.{or_parts}
use Rattle.std.proofs.lemmas.Bool.Decides.{nat_tests}
use Rattle.chem_model.specs.declared.name.Loc.{Loc}
use Rattle.chem_model.specs.declared.event.AtomId.{AtomId}
use Rattle.chem_model.specs.declared.event.RuleId.{RuleId}
use Rattle.chem_model.specs.declared.event.Event.{Event}
use Rattle.chem_model.specs.declared.event.Event.TheVariants as event
use Rattle.chem_model.specs.declared.numbered.NumberedAtom.{NumberedAtom}
use Rattle.chem_model.specs.declared.numbered.Numbered.{Numbered}
use Rattle.chem_model.specs.Process.{Process, Msg, Par, Def, Go, Fail, Halt}
use Rattle.chem_model.specs.Solution.{is_there}
use Rattle.chem_model.specs.Numbered.{standing}
use Rattle.chem_model.specs.Apply.{atom_at, with_atom, move_atom, halt_atom, detect_atom, apply}
use Rattle.chem_model.specs.Sound.{IsSound, IsAtom}
use Rattle.chem_laws.proofs.Places.{live_parts, root_is}
use Rattle.chem_laws.proofs.Taking.{atom_found}
use Rattle.trace_history.specs.First.{turns, atom_less, rule_less, atoms_less, request_of}
use Rattle.trace_history.specs.First.{event_less, site_of, IsFirst}
use Rattle.trace_history.specs.inside.Search.{event_of}
use Rattle.trace_history.proofs.Replays.{same_some}
use Rattle.book_store.proofs.Order.{less_same}
use Rattle.trace_history.proofs.Founds.{reacting, requesting, less_by_request, Kind, reaction}
use Rattle.trace_history.proofs.Founds.{request, kind, rule_ids, rule_site, request_site}

-- two sites of a solution have two turns
turns_same : (sites from s t : ℕ) → s < sites → t < sites → turns sites from s ≡ turns sites from t
    → s ≡ t
turns_same sites from s t low lower e = grind (arith, nat_tests)

-- ---- events that come not before one another are the same

atom_ids : (i j : AtomId) → atom_less i j ≡ false → atom_less j i ≡ false → i ≡ j
atom_ids i j f g =
    let same = less_same i.site i.k j.site j.k f g in
    λ t. record { site = same.0 t; k = same.1 t }

-- where the first members come not before one another, the others decide
module _ (a b c d : Bool) (f : a || (cond b false c) ≡ false)
    (g : b || (cond a false d) ≡ false) where
  firsts : (a ≡ false) × (b ≡ false)
  firsts = ((or_parts a (cond b false c) f).0, (or_parts b (cond a false d) g).0)

  others : (c ≡ false) × (d ≡ false)
  others = (
    ap (λ t. cond t false c) (sym firsts.1) ∙ (or_parts a (cond b false c) f).1,
    ap (λ t. cond t false d) (sym firsts.0) ∙ (or_parts b (cond a false d) g).1,
  )

atoms_same : (took taken : List AtomId) → atoms_less took taken ≡ false
    → atoms_less taken took ≡ false → took ≡ taken
atoms_same [] [] f g = refl
atoms_same [] (j ∷ taken) f g = cc
atoms_same (i ∷ took) [] f g = cc
atoms_same (i ∷ took) (j ∷ taken) f g =
    let here =
    firsts (atom_less i j) (atom_less j i) (atoms_less took taken) (atoms_less taken took) f g in
    let there =
    others (atom_less i j) (atom_less j i) (atoms_less took taken) (atoms_less taken took) f g in
    ap (λ x. x ∷ took) (atom_ids i j here.0 here.1)
    ∙ ap (λ xs. j ∷ xs) (atoms_same took taken there.0 there.1)

reaction_before : (i : RuleId) (took : List AtomId) (f : Event) (j : AtomId) → request_of f ≡ Some j
    → event_less (event.React i took) f ≡ true
reaction_before i took (event.React k taken) j e = cc
reaction_before i took (event.Move k) j e = refl
reaction_before i took (event.Halt k) j e = refl
reaction_before i took (event.Detect k) j e = refl

-- ---- a request that is met is met by one event

-- the event of a request, where the request is there
abbrev event_at : AtomId → Option NumberedAtom → Option Event
event_at i None = None
event_at i (Some a) = event_of i a.term

moved : (n : Numbered) (i : AtomId) (l : Loc) (p : Process) → is_some (move_atom n i l p) ≡ true
    → event_of i p ≡ Some (event.Move i)
moved n i l (Go b k) h = refl
moved n i l (Msg x vs) h = cc
moved n i l (Par ps) h = cc
moved n i l (Def ds p) h = cc
moved n i l (Fail a k) h = cc
moved n i l Halt h = cc

halted : (n : Numbered) (i : AtomId) (l : Loc) (p : Process) → is_some (halt_atom n i l p) ≡ true
    → event_of i p ≡ Some (event.Halt i)
halted n i l Halt h = refl
halted n i l (Msg x vs) h = cc
halted n i l (Par ps) h = cc
halted n i l (Def ds p) h = cc
halted n i l (Go b k) h = cc
halted n i l (Fail a k) h = cc

detected : (n : Numbered) (i : AtomId) (l : Loc) (p : Process)
    → is_some (detect_atom n i l p) ≡ true → event_of i p ≡ Some (event.Detect i)
detected n i l (Fail a k) h = refl
detected n i l (Msg x vs) h = cc
detected n i l (Par ps) h = cc
detected n i l (Def ds p) h = cc
detected n i l (Go b k) h = cc
detected n i l Halt h = cc

met_by : (i : AtomId) (e : Event) (f : Loc → Process → Option Numbered)
    → ((l : Loc) (p : Process) → is_some (f l p) ≡ true → event_of i p ≡ Some e)
    → (o : Option NumberedAtom) → is_some (with_atom o f) ≡ true → event_at i o ≡ Some e
met_by i e f h None p = cc
met_by i e f h (Some a) p = h a.loc a.term p

its_event : (n : Numbered) (f : Event) (j : AtomId) → request_of f ≡ Some j
    → is_some (apply n f) ≡ true → event_at j (atom_at n.atoms j) ≡ Some f
its_event n (event.React i took) j e h = cc
its_event n (event.Move i) j e h =
    subst (λ (x : AtomId). event_at x (atom_at n.atoms x) ≡ Some (event.Move i)) (same_some i j e)
    (met_by i (event.Move i) (move_atom n i) (moved n i) (atom_at n.atoms i) h)
its_event n (event.Halt i) j e h =
    subst (λ (x : AtomId). event_at x (atom_at n.atoms x) ≡ Some (event.Halt i)) (same_some i j e)
    (met_by i (event.Halt i) (halt_atom n i) (halted n i) (atom_at n.atoms i) h)
its_event n (event.Detect i) j e h =
    subst (λ (x : AtomId). event_at x (atom_at n.atoms x) ≡ Some (event.Detect i)) (same_some i j e)
    (met_by i (event.Detect i) (detect_atom n i) (detected n i) (atom_at n.atoms i) h)

same_event : (n : Numbered) (e f : Event) → Kind e → Kind f → is_some (apply n e) ≡ true
    → is_some (apply n f) ≡ true → event_less e f ≡ false → event_less f e ≡ false → e ≡ f
same_event n e f (reaction i took) (reaction j taken) p q f_after e_after =
    let rules = firsts (rule_less i j) (rule_less j i) (atoms_less took taken)
    (atoms_less taken took) f_after e_after in
    let atoms = others (rule_less i j) (rule_less j i) (atoms_less took taken)
    (atoms_less taken took) f_after e_after in
    ap (λ x. event.React x took) (rule_ids i j (less_same i.site i.k j.site j.k rules.0 rules.1))
    ∙ ap (event.React j) (atoms_same took taken atoms.0 atoms.1)
same_event n e f (reaction i took) (request j g) p q f_after e_after =
    let is = reaction_before i took f j g in
    cc
same_event n e f (request i g) (reaction j taken) p q f_after e_after =
    let is = reaction_before j taken e i g in
    cc
same_event n e f (request i g) (request j h) p q f_after e_after =
    let ids = atom_ids i j (sym (less_by_request e f i j g h) ∙ f_after)
    (sym (less_by_request f e j i h g) ∙ e_after) in
    same_some e f (sym (its_event n e i g p)
    ∙ ap (λ (x : AtomId). event_at x (atom_at n.atoms x)) ids ∙ its_event n f j h q)

-- ---- the site of a possible event is one of the solution

module _ (n : Numbered) (sound : IsSound n) (from : ℕ) where
  site_within : (f : Event) (s : ℕ) → Kind f → is_some (apply n f) ≡ true → site_of n f ≡ Some s
      → s < length n.counts
  site_within f s (reaction i took) p at =
      let a = reacting n i took p in
      let there : is_there (standing n.places a.rule.loc) ≡ true =
      (live_parts (standing n.places) a.rule.loc a.lives).0 in
      subst (λ (k : ℕ). k < length n.counts) (rule_site n sound from i took a s at)
      (root_is n sound a.rule.loc there).0.1
  site_within f s (request j e) p at =
      let q = requesting n f j e p in
      let there : is_there (standing n.places q.atom.loc) ≡ true =
      (atom_found (IsAtom n) n.atoms j q.atom q.found sound.atoms).0 in
      subst (λ (k : ℕ). k < length n.counts) (request_site n sound from f j q s e at)
      (root_is n sound q.atom.loc there).0.1

  pub one_first : (s t : ℕ) (e f : Event) → IsFirst n from s e → IsFirst n from t f
      → (s ≡ t) × (e ≡ f)
  one_first s t e f one other = (
    sites,
    same_event n e f (kind e) (kind f) one.possible other.possible
        (other.no_lesser e one.possible (one.at_site ∙ ap Some sites))
        (one.no_lesser f other.possible (other.at_site ∙ ap Some (sym sites))),
  )
    where
      sites : s ≡ t
      sites =
          let later = one.no_earlier_site f t other.possible other.at_site in
          let earlier = other.no_earlier_site e s one.possible one.at_site in
          turns_same (length n.counts) from s t (site_within e s (kind e) one.possible one.at_site)
          (site_within f t (kind f) other.possible other.at_site) (omega arith)
