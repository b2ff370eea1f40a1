-- An event is possible that takes an atom exactly where the walk over the rules says so.
use Rattle.std.proofs.Common.{◌≡◌, List, [], ◌∷◌, Option, Some, None, Bool, true, false, cond, refl}
use Rattle.std.proofs.Common.{ap, sym, ◌∙◌, subst, arith, ◌||◌, ◌==◌, inl, inr, is_some, length}
use Rattle.std.proofs.lemmas.Bool.{false≢true, and_parts, and_from, or_left, or_right}
use Rattle.std.specs.List.{list_any, list_all}
use Rattle.chem_model.specs.declared.name.Loc.{Loc}
use Rattle.chem_model.specs.declared.name.Name.TheVariants as name
use Rattle.chem_model.specs.declared.name.Ref.{Ref}
use Rattle.chem_model.specs.declared.name.Ref.TheVariants.{Binder, Known}
use Rattle.chem_model.specs.declared.name.Pat.{Pat}
use Rattle.chem_model.specs.declared.event.AtomId.{AtomId}
use Rattle.chem_model.specs.declared.event.RuleId.{RuleId}
use Rattle.chem_model.specs.declared.event.Event.{Event}
use Rattle.chem_model.specs.declared.event.Event.TheVariants as event
use Rattle.chem_model.specs.declared.numbered.NumberedRule.{NumberedRule}
use Rattle.chem_model.specs.declared.numbered.NumberedAtom.{NumberedAtom}
use Rattle.chem_model.specs.declared.numbered.Numbered.{Numbered}
use Rattle.chem_model.specs.Process.{Process, Msg, Par, Def, Go, Fail, Halt}
use Rattle.chem_model.specs.Each.{Each, IsIn}
use Rattle.chem_model.specs.Fill.{Naming}
use Rattle.chem_model.specs.Solution.{same_loc, live}
use Rattle.chem_model.specs.Reduction.{given}
use Rattle.chem_model.specs.Numbered.{standing}
use Rattle.chem_model.specs.Pour.{known}
use Rattle.chem_model.specs.Apply.{same_rule, atom_at, rule_at, same_ref, received, received_at}
use Rattle.chem_model.specs.Apply.{received_all, with_atom, move_atom, halt_atom, detect_atom}
use Rattle.chem_model.specs.Apply.{apply}
use Rattle.chem_model.specs.Sound.{IsSound, IsAtom, IsRule, IsKnown, IsHomedAt, IsAtHome, IsSettled}
use Rattle.chem_model.specs.Sound.{IsNameOf}
use Rattle.chem_laws.proofs.Taking.{same_ref_is}
use Rattle.chem_laws.proofs.Within.{same_loc_refl}
use Rattle.chem_laws.specs.Twice.{taken_by}
use Rattle.chem_causes.specs.Cause.{IsReady, waits_for}
use Rattle.chem_causes.specs.Ready.{receives, is_met, is_ready, can_act, takes_up, is_taken_up}
use Rattle.chem_causes.specs.Ready.{is_ready_atom}
use Rattle.chem_causes.proofs.Receiving.{AtomsDiffer, RulesDiffer, member_found, rule_member_found}
use Rattle.chem_causes.proofs.Receiving.{some_both, received_first, Reacting, reacting, is_reacting}
use Rattle.chem_causes.proofs.Receiving.{ready}

pub each_in : {X : Type 0} (P : X → Type 0) (xs : List X) (x : X) → IsIn x xs → Each P xs → P x
each_in P [] x at h = absurd at
each_in P (y ∷ xs) x (inl e) h = subst P (sym e) h.0
each_in P (y ∷ xs) x (inr at) h = each_in P xs x at h.1

-- a test that a member of a list passes
pub some_one : {X : Type 0} (t : X → Bool) (xs : List X) → list_any t xs ≡ true
    → (x : X) × IsIn x xs × (t x ≡ true)
some_one {X} t [] h = cc
some_one {X} t (x ∷ xs) h = go (t x) refl (some_one t xs) h
  where
    go : (b : Bool) → t x ≡ b → (list_any t xs ≡ true → (y : X) × IsIn y xs × (t y ≡ true))
        → b || list_any t xs ≡ true → (y : X) × IsIn y (x ∷ xs) × (t y ≡ true)
    go true c later h' = (x, inl refl, c)
    go false c later h' = let r = later h' in (r.0, inr r.1, r.2)

any_weaker : {X : Type 0} (t u : X → Bool) (xs : List X) → Each (λ x. t x ≡ true → u x ≡ true) xs
    → list_any t xs ≡ true → list_any u xs ≡ true
any_weaker t u [] e h = h
any_weaker t u (x ∷ xs) e h = go (t x) refl (any_weaker t u xs e.1) h
  where
    go : (b : Bool) → t x ≡ b → (list_any t xs ≡ true → list_any u xs ≡ true)
        → b || list_any t xs ≡ true → u x || list_any u xs ≡ true
    go true c later h' = or_left (u x) (list_any u xs) (e.0 c)
    go false c later h' = or_right (u x) (list_any u xs) (later h')

any_rule : (t : NumberedRule → Bool) (rules : List NumberedRule) (i : RuleId) (r : NumberedRule)
    → rule_at rules i ≡ Some r → t r ≡ true → list_any t rules ≡ true
any_rule t [] i r e h = cc
any_rule t (q ∷ rules) i r e h = go (same_rule q.id i) (λ e'. any_rule t rules i r e' h) e
  where
    go : (b : Bool) → (rule_at rules i ≡ Some r → list_any t rules ≡ true)
        → cond b (Some q) (rule_at rules i) ≡ Some r → t q || list_any t rules ≡ true
    go true later e' = let same : q ≡ r = cc in or_left (t q) (list_any t rules) (ap t same ∙ h)
    go false later e' = or_right (t q) (list_any t rules) (later e')

-- ---- receiving an atom, by its term

abbrev pub receives_as : Loc → Pat → Loc → Process → Bool
receives_as l p m q = is_some (cond (same_loc m l) (received p q) None)

pub received_waits : (l m : Loc) (p : Pat) (x : Ref) (vs : List Ref)
    → receives_as l p m (Msg x vs) ≡ true → waits_for x (length vs) p ≡ true
received_waits l m p x vs h = go (same_loc m l) (waits_for x (length vs) p) h
  where
    go : (t u : Bool)
        → is_some (cond t (cond u (Some (given p.params (known vs))) None) None) ≡ true → u ≡ true
    go true true h' = refl
    go true false h' = cc
    go false u h' = cc

abbrev pub nothing : Option Naming
nothing = None

not_received : (t : Bool) → is_some (cond t nothing nothing) ≡ true → ⊥
not_received true h = false≢true h
not_received false h = false≢true h

-- the home of a channel is one location
one_home : (x : Ref) (l m : Loc) → IsKnown (IsHomedAt l) x → IsAtHome m x → l ≡ m
one_home (Binder b) l m h g = absurd h
one_home (Known (name.Seen i)) l m h g = absurd h
one_home (Known (name.Place a)) l m h g = absurd h
one_home (Known (name.Chan s k e)) l m h g = sym h ∙ g
one_home (Known (name.Num i)) l m h g = absurd h
one_home (Known (name.Op i)) l m h g = absurd h

-- what a pattern waits for it receives, where both stand at the channel's home
pub waits_received : (l m : Loc) (p : Pat) (x : Ref) (vs : List Ref) → IsKnown (IsHomedAt l) p.on
    → IsAtHome m x → waits_for x (length vs) p ≡ true → receives_as l p m (Msg x vs) ≡ true
waits_received l m p x vs home at h =
    let on : p.on ≡ x =
    same_ref_is p.on x (and_parts (same_ref p.on x) (length p.params == length vs) h).0 in
    let here : l ≡ m = one_home x l m (subst (IsKnown (IsHomedAt l)) on home) at in
    let same : same_loc m l ≡ true = ap (same_loc m) here ∙ same_loc_refl m in
    ap (λ t. is_some (cond t (received p (Msg x vs)) None)) same
    ∙ ap (λ t. is_some (cond t (Some (given p.params (known vs))) None)) h

-- ---- an event that takes it

module _ (n : Numbered) (sound : IsSound n) where
  pub atoms_differ : AtomsDiffer n.atoms
  atoms_differ p = omega (arith, sound.different p)

  pub rules_differ : RulesDiffer n.rules
  rules_differ p = omega (arith, sound.different p)

  module _ (a : NumberedAtom) (there : IsIn a n.atoms) where
    found : atom_at n.atoms a.id ≡ Some a
    found = member_found n.atoms atoms_differ a there

    is_atom : IsAtom n a
    is_atom = each_in (IsAtom n) n.atoms a there sound.atoms

    -- one of the patterns receives it
    picked : (l : Loc) (ps : List Pat) (took : List AtomId)
        → is_some (received_all n.atoms l ps took) ≡ true → IsIn a.id took
        → list_any (λ p. receives l p a) ps ≡ true
    picked l [] [] h at = absurd at
    picked l [] (i ∷ took) h at = cc
    picked l (p ∷ ps) [] h at = absurd at
    picked l (p ∷ ps) (i ∷ took) h (inl e) =
        let f = and_parts (is_some (received_at l p (atom_at n.atoms i)))
        (is_some (received_all n.atoms l ps took))
        (sym (some_both (received_at l p (atom_at n.atoms i)) (received_all n.atoms l ps took))
        ∙ h) in
        or_left (receives l p a) (list_any (λ q. receives l q a) ps)
        (ap (λ o. is_some (received_at l p o)) (sym found ∙ ap (atom_at n.atoms) e) ∙ f.0)
    picked l (p ∷ ps) (i ∷ took) h (inr at) =
        let f = received_first n.atoms l p ps i took h in
        or_right (receives l p a) (list_any (λ q. receives l q a) ps) (picked l ps took f.1 at)

    by_reaction : (q : Process) → a.term ≡ q → (i : RuleId) (took : List AtomId) → Reacting n i took
        → IsIn a.id took → is_ready_atom n a q ≡ true
    by_reaction q is i took e at = go q
        (ap (λ (x : Process). list_any (λ p. receives_as e.rule.loc p a.loc x) e.rule.pats) (sym is)
        ∙ picked e.rule.loc e.rule.pats took e.received at)
      where
        none_waits : (x : Process) → ((p : Pat) → received p x ≡ nothing)
            → list_any (λ p. receives_as e.rule.loc p a.loc x) e.rule.pats ≡ true → ⊥
        none_waits x none h =
            let one = some_one (λ p. receives_as e.rule.loc p a.loc x) e.rule.pats h in
            not_received (same_loc a.loc e.rule.loc)
            (ap (λ o. is_some (cond (same_loc a.loc e.rule.loc) o nothing)) (sym (none one.0))
            ∙ one.2)

        each_waits : (x : Ref) (vs : List Ref) (ps : List Pat)
            → Each (λ p.
            receives_as e.rule.loc p a.loc (Msg x vs) ≡ true → waits_for x (length vs) p ≡ true) ps
        each_waits x vs [] = tt
        each_waits x vs (p ∷ ps) = (received_waits e.rule.loc a.loc p x vs, each_waits x vs ps)

        go : (x : Process) → list_any (λ p. receives_as e.rule.loc p a.loc x) e.rule.pats ≡ true
            → is_ready_atom n a x ≡ true
        go (Msg x vs) h =
            let waits = any_weaker (λ p. receives_as e.rule.loc p a.loc (Msg x vs))
            (waits_for x (length vs)) e.rule.pats (each_waits x vs e.rule.pats) h in
            any_rule (takes_up n x (length vs)) n.rules i
            e.rule e.found (and_from (list_any (waits_for x (length vs)) e.rule.pats)
            (is_ready n e.rule) waits (ready n i took e))
        go (Par ps) h = absurd (none_waits (Par ps) (λ p. refl) h)
        go (Def ds p) h = absurd (none_waits (Def ds p) (λ p. refl) h)
        go (Go b k) h = absurd (none_waits (Go b k) (λ p. refl) h)
        go (Fail b k) h = absurd (none_waits (Fail b k) (λ p. refl) h)
        go Halt h = absurd (none_waits Halt (λ p. refl) h)

    -- a request that is made can be met
    by_move : (q : Process) → is_some (move_atom n a.id a.loc q) ≡ true → a.term ≡ q
        → is_ready_atom n a q ≡ true
    by_move (Go b k) h is = or_left (is_some (move_atom n a.id a.loc a.term)) _
        (ap (λ x. is_some (move_atom n a.id a.loc x)) is ∙ h)
    by_move (Msg x vs) h is = cc
    by_move (Par ps) h is = cc
    by_move (Def ds p) h is = cc
    by_move (Fail b k) h is = cc
    by_move Halt h is = cc

    by_halt : (q : Process) → is_some (halt_atom n a.id a.loc q) ≡ true → a.term ≡ q
        → is_ready_atom n a q ≡ true
    by_halt Halt h is = or_right (is_some (move_atom n a.id a.loc a.term)) _
        (or_left (is_some (halt_atom n a.id a.loc a.term)) _
        (ap (λ x. is_some (halt_atom n a.id a.loc x)) is ∙ h))
    by_halt (Msg x vs) h is = cc
    by_halt (Par ps) h is = cc
    by_halt (Def ds p) h is = cc
    by_halt (Go b k) h is = cc
    by_halt (Fail b k) h is = cc

    by_detect : (q : Process) → is_some (detect_atom n a.id a.loc q) ≡ true → a.term ≡ q
        → is_ready_atom n a q ≡ true
    by_detect (Fail b k) h is = or_right (is_some (move_atom n a.id a.loc a.term)) _
        (or_right (is_some (halt_atom n a.id a.loc a.term)) _
        (ap (λ x. is_some (detect_atom n a.id a.loc x)) is ∙ h))
    by_detect (Msg x vs) h is = cc
    by_detect (Par ps) h is = cc
    by_detect (Def ds p) h is = cc
    by_detect (Go b k) h is = cc
    by_detect Halt h is = cc

    -- the atom of a request's number is this one
    the_one : (f : AtomId → Loc → Process → Option Numbered) (j : AtomId) → IsIn a.id (j ∷ [])
        → is_some (with_atom (atom_at n.atoms j) (f j)) ≡ true
        → is_some (f a.id a.loc a.term) ≡ true
    the_one f j (inr at) h = absurd at
    the_one f j (inl e) h = ap (λ o. is_some (with_atom o (f a.id))) (sym found)
        ∙ ap (λ i. is_some (with_atom (atom_at n.atoms i) (f i))) e ∙ h

    pub ready_then : IsReady n a → is_ready_atom n a a.term ≡ true
    ready_then r = go r.0 r.1 r.2
      where
        go : (e : Event) → is_some (apply n e) ≡ true → IsIn a.id (taken_by e)
            → is_ready_atom n a a.term ≡ true
        go (event.React i took) h at = by_reaction a.term refl i took (reacting n i took h) at
        go (event.Move j) h at = by_move a.term (the_one (move_atom n) j at h) refl
        go (event.Halt j) h at = by_halt a.term (the_one (halt_atom n) j at h) refl
        go (event.Detect j) h at = by_detect a.term (the_one (detect_atom n) j at h) refl

    -- ---- and the other way

    -- one atom for each pattern, and this one where a pattern receives it
    gather : (l : Loc) (ps : List Pat) → list_all (is_met n.atoms l) ps ≡ true
        → (took : List AtomId) × (is_some (received_all n.atoms l ps took) ≡ true)
        × (list_any (λ p. receives l p a) ps ≡ true → IsIn a.id took)
    gather l [] h = ([], refl, λ e. cc)
    gather l (p ∷ ps) h =
        let f = and_parts (is_met n.atoms l p) (list_all (is_met n.atoms l) ps) h in
        go (receives l p a) refl (some_one (receives l p) n.atoms f.0) (gather l ps f.1)
      where
        all : (b : NumberedAtom) (took : List AtomId) → atom_at n.atoms b.id ≡ Some b
            → receives l p b ≡ true → is_some (received_all n.atoms l ps took) ≡ true
            → is_some (received_all n.atoms l (p ∷ ps) (b.id ∷ took)) ≡ true
        all b took at here rest =
            some_both (received_at l p (atom_at n.atoms b.id)) (received_all n.atoms l ps took)
            ∙ and_from (is_some (received_at l p (atom_at n.atoms b.id)))
            (is_some (received_all n.atoms l ps took))
            (ap (λ o. is_some (received_at l p o)) at ∙ here) rest

        go : (t : Bool) → receives l p a ≡ t
            → (b : NumberedAtom) × IsIn b n.atoms × (receives l p b ≡ true)
            → (took : List AtomId) × (is_some (received_all n.atoms l ps took) ≡ true)
            × (list_any (λ q. receives l q a) ps ≡ true → IsIn a.id took)
            → (took : List AtomId) × (is_some (received_all n.atoms l (p ∷ ps) took) ≡ true)
            × (t || list_any (λ q. receives l q a) ps ≡ true → IsIn a.id took)
        go true c one rest = (a.id ∷ rest.0, all a rest.0 found c rest.1, λ e. inl refl)
        go false c one rest = (
          one.0.id ∷ rest.0,
          all one.0 rest.0 (member_found n.atoms atoms_differ one.0 one.1) one.2 rest.1,
          λ e. inr (rest.2 e),
        )

    by_rule : (x : Ref) (vs : List Ref) → a.term ≡ Msg x vs → is_taken_up n x (length vs) ≡ true
        → IsReady n a
    by_rule x vs is h =
        let one = some_one (takes_up n x (length vs)) n.rules h in
        let r = one.0 in
        let up = and_parts (list_any (waits_for x (length vs)) r.pats) (is_ready n r) one.2 in
        let stands =
        and_parts (live (standing n.places) r.loc) (list_all (is_met n.atoms r.loc) r.pats) up.1 in
        let rule : IsRule n r = each_in (IsRule n) n.rules r one.1 sound.rules in
        let at_home : IsAtHome a.loc x = home x vs is in
        let receive =
        any_weaker (waits_for x (length vs)) (λ p. receives_as r.loc p a.loc (Msg x vs))
        r.pats (each r.loc x vs at_home r.pats rule.channels) up.0 in
        let took = gather r.loc r.pats stands.1 in (
          event.React r.id took.0,
          is_reacting n r.id took.0 r (rule_member_found n.rules rules_differ r one.1)
              stands.0 took.1,
          took.2 (ap (λ (q : Process). list_any (λ p. receives_as r.loc p a.loc q) r.pats) is
              ∙ receive),
        )
      where
        home : (x : Ref) (vs : List Ref) → a.term ≡ Msg x vs → IsAtHome a.loc x
        home x vs is = (subst (IsSettled n.seen (IsNameOf n) a.loc) is is_atom.1).2

        each : (l : Loc) (x : Ref) (vs : List Ref) → IsAtHome a.loc x → (ps : List Pat)
            → Each (λ (p : Pat). IsKnown (IsNameOf n) p.on × IsKnown (IsHomedAt l) p.on) ps
            → Each (λ p. waits_for x (length vs) p ≡ true → receives_as l p a.loc (Msg x vs) ≡ true)
            ps
        each l x vs at [] h = tt
        each l x vs at (p ∷ ps) h = (waits_received l a.loc p x vs h.0.1 at, each l x vs at ps h.1)

    with_found : (f : AtomId → Loc → Process → Option Numbered) (q : Process) → a.term ≡ q
        → is_some (f a.id a.loc q) ≡ true
        → is_some (with_atom (atom_at n.atoms a.id) (f a.id)) ≡ true
    with_found f q is h =
        ap (λ o. is_some (with_atom o (f a.id))) found ∙ ap (λ x. is_some (f a.id a.loc x)) is ∙ h

    or_nothing : (b : Bool) → b || (false || false) ≡ true → b ≡ true
    or_nothing true h = refl
    or_nothing false h = h

    or_false : (b : Bool) → b || false ≡ true → b ≡ true
    or_false true h = refl
    or_false false h = h

    acts_as : (q : Process) → a.term ≡ q → can_act n a ≡ true
        → is_some (move_atom n a.id a.loc q)
        || (is_some (halt_atom n a.id a.loc q) || is_some (detect_atom n a.id a.loc q)) ≡ true
    acts_as q is h = ap (λ x. is_some (move_atom n a.id a.loc x)
        || (is_some (halt_atom n a.id a.loc x) || is_some (detect_atom n a.id a.loc x))) (sym is)
        ∙ h

    by_term : (q : Process) → a.term ≡ q → is_ready_atom n a q ≡ true → IsReady n a
    by_term (Msg x vs) is h = by_rule x vs is h
    by_term (Par ps) is h = cc
    by_term (Def ds p) is h = cc
    by_term (Go b k) is h = (
      event.Move a.id,
      with_found (move_atom n) (Go b k) is
          (or_nothing (is_some (move_atom n a.id a.loc (Go b k))) (acts_as (Go b k) is h)),
      inl refl,
    )
    by_term (Fail b k) is h = (
      event.Detect a.id,
      with_found (detect_atom n) (Fail b k) is (acts_as (Fail b k) is h),
      inl refl,
    )
    by_term Halt is h = (
      event.Halt a.id,
      with_found (halt_atom n) Halt is
          (or_false (is_some (halt_atom n a.id a.loc Halt)) (acts_as Halt is h)),
      inl refl,
    )

    pub then_ready : is_ready_atom n a a.term ≡ true → IsReady n a
    then_ready h = by_term a.term refl h
