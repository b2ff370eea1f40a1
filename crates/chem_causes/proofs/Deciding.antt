-- What is found out of an atom tells its cause; and a set of the channels that have a message tells
-- which rules are ready.
use Rattle.std.proofs.Common.{◌≡◌, ℕ, ◌<◌, List, [], ◌∷◌, Option, Some, None, Bool, true, false}
use Rattle.std.proofs.Common.{cond, refl, ap, sym, ◌∙◌, subst, arith, ◌&&◌, ◌||◌, ◌==◌, is_some}
use Rattle.std.proofs.Common.{length, not, eqb-true}
use Rattle.std.proofs.lemmas.Bool.{false≢true}
use Rattle.std.specs.List.{list_any, list_all}
use Rattle.chem_model.specs.declared.name.Loc.{Loc}
use Rattle.chem_model.specs.declared.name.Name.TheVariants as name
use Rattle.chem_model.specs.declared.name.Ref.{Ref}
use Rattle.chem_model.specs.declared.name.Ref.TheVariants.{Binder, Known}
use Rattle.chem_model.specs.declared.name.Pat.{Pat}
use Rattle.chem_model.specs.declared.numbered.Placed.{Placed}
use Rattle.chem_model.specs.declared.numbered.NumberedAtom.{NumberedAtom}
use Rattle.chem_model.specs.declared.numbered.Numbered.{Numbered}
use Rattle.chem_model.specs.Process.{Process, Msg, Par, Def, Go, Fail, Halt}
use Rattle.chem_model.specs.Each.{Each, IsIn}
use Rattle.chem_model.specs.Solution.{host_of, is_there, dead, live}
use Rattle.chem_model.specs.Numbered.{standing, pairs}
use Rattle.chem_model.specs.Sound.{IsSound, IsAtom, IsRule, IsHosted, IsSettled, IsNameOf, IsKnown}
use Rattle.chem_model.specs.Sound.{IsHomedAt}
use Rattle.chem_laws.proofs.Places.{placed_found, place_pair_found, root_loc}
use Rattle.chem_causes.specs.declared.cause.Cause.{Cause}
use Rattle.chem_causes.specs.declared.cause.Cause.TheVariants as cause
use Rattle.chem_causes.specs.Cause.{IsCause, has_pattern}
use Rattle.chem_causes.specs.Ready.{is_ready_atom, cause_of_message, cause_of_go, cause_of_fail}
use Rattle.chem_causes.specs.Ready.{cause_of_term, cause_of}
use Rattle.chem_causes.specs.Decided.{is_waited_for, cause_by_channel, cause_by_go, cause_by_fail}
use Rattle.chem_causes.specs.Decided.{cause_by_term, cause_by}
use Rattle.chem_causes.specs.Channels.{Key, has, is_on}
use Rattle.chem_causes.specs.Cause.{IsChannel, waits_for}
use Rattle.chem_causes.specs.Ready.{receives, is_met}
use Rattle.chem_causes.specs.Decided.{HasMessages, CausesAreDecided, ChannelsTellWhatIsMet}
use Rattle.chem_model.specs.Apply.{same_ref, received}
use Rattle.chem_model.specs.Solution.{same_loc}
use Rattle.chem_laws.proofs.Taking.{same_ref_is}
use Rattle.std.proofs.lemmas.Bool.Decides.{nat_tests}
use Rattle.chem_causes.proofs.Readiness.{each_in, nothing, receives_as, received_waits}
use Rattle.chem_causes.proofs.Readiness.{waits_received}
use Rattle.chem_causes.proofs.OneCause.{cause_is}

not_both : (r : Loc) → Some r ≡ None → ⊥
not_both r e = false≢true (sym (ap is_some e))

module _ (n : Numbered) (sound : IsSound n) where
  -- a location has a host exactly where its number isn't that of a root
  hosted_as : (l : Loc) → is_there (standing n.places l) ≡ true → (x : Placed) (o : Option Loc)
      → IsHosted n x o → x.loc ≡ l → host_of (standing n.places l) ≡ o → is_some o ≡ not (l.k == 0)
  hosted_as l there x None h e at =
      ap not (sym (ap (λ (k : ℕ). k == 0) (sym (ap (λ (m : Loc). m.k) e) ∙ h.0)))
  hosted_as l there x (Some r) h e at = go (l.k == 0) refl
    where
      go : (t : Bool) → (l.k == 0) ≡ t → true ≡ not t
      go false c = refl
      go true c =
          let zero_k : l.k ≡ 0 = eqb-true l.k 0 c in
          let counted : 0 < pairs n (l.site, l.k) =
          (let found = place_pair_found n.places l there in omega arith) in
          let low = (sound.below (l.site, l.k) counted).0 in
          let none : host_of (standing n.places l) ≡ None =
          ap (λ (q : Loc). host_of (standing n.places q)) (sym (root_loc l l.site zero_k refl))
          ∙ (sound.roots l.site low).1 in
          absurd (not_both r (sym at ∙ none))

  pub hosted_by_number : (l : Loc) → is_there (standing n.places l) ≡ true
      → is_some (host_of (standing n.places l)) ≡ not (l.k == 0)
  hosted_by_number l there =
      let f = placed_found (λ p. IsHosted n p p.host) n.places l sound.hosted there in
      let at : host_of (standing n.places l) ≡ f.0.host = ap host_of f.3 in
      ap is_some at ∙ hosted_as l there f.0 f.0.host f.1 f.2 at

  module _ (a : NumberedAtom) (there : IsIn a n.atoms) where
    stands : is_there (standing n.places a.loc) ≡ true
    stands = (each_in (IsAtom n) n.atoms a there sound.atoms).0

    settled : (q : Process) → a.term ≡ q → IsSettled n.seen (IsNameOf n) a.loc q
    settled q is = subst (IsSettled n.seen (IsNameOf n) a.loc) is
        (each_in (IsAtom n) n.atoms a there sound.atoms).1

    cond_not : (t : Bool) (x y : Cause) → cond (not t) x y ≡ cond t y x
    cond_not true x y = refl
    cond_not false x y = refl

    go_as : (b k : Ref) → a.term ≡ Go b k → cause_by_go a.loc b ≡ cause_of_go n a.loc b
    go_as (Binder b) k is = refl
    go_as (Known (name.Seen i)) k is = refl
    go_as (Known (name.Chan s j h)) k is = refl
    go_as (Known (name.Num i)) k is = refl
    go_as (Known (name.Op i)) k is = refl
    go_as (Known (name.Place b)) k is =
        let here = hosted_by_number a.loc stands in
        let target = hosted_by_number b (settled (Go (Known (name.Place b)) k) is).0 in
        sym (ap (λ t.
        cond t (cond (is_some (host_of (standing n.places b))) cause.NoSite cause.Gone) cause.Root)
        here
        ∙ cond_not (a.loc.k == 0)
        (cond (is_some (host_of (standing n.places b))) cause.NoSite cause.Gone) cause.Root
        ∙ ap (λ t. cond (a.loc.k == 0) cause.Root (cond t cause.NoSite cause.Gone)) target
        ∙ ap (λ x. cond (a.loc.k == 0) cause.Root x) (cond_not (b.k == 0) cause.NoSite cause.Gone))

    channel_as : (x : Ref) (c : ℕ)
        → cause_by_channel (has_pattern n.rules x c) x ≡ cause_of_message n.rules x c
    channel_as (Binder b) c = refl
    channel_as (Known (name.Seen i)) c = refl
    channel_as (Known (name.Place b)) c = refl
    channel_as (Known (name.Chan s k h)) c = refl
    channel_as (Known (name.Num i)) c = refl
    channel_as (Known (name.Op i)) c = refl

    fail_as : (b : Ref) → cause_by_fail b ≡ cause_of_fail b
    fail_as (Binder b) = refl
    fail_as (Known (name.Seen i)) = refl
    fail_as (Known (name.Place b)) = refl
    fail_as (Known (name.Chan s k h)) = refl
    fail_as (Known (name.Num i)) = refl
    fail_as (Known (name.Op i)) = refl

    term_as : (q : Process) → a.term ≡ q
        → cause_by_term (is_waited_for n.rules q) a.loc q ≡ cause_of_term n a.loc q
    term_as (Msg x vs) is = channel_as x (length vs)
    term_as (Par ps) is = refl
    term_as (Def ds p) is = refl
    term_as (Go b k) is = go_as b k is
    term_as (Fail b k) is = fail_as b
    term_as Halt is = refl

    -- the cause by what was found out
    pub decided : (t u w : Bool) → t ≡ live (standing n.places) a.loc → u ≡ is_ready_atom n a a.term
        → (u ≡ false → w ≡ is_waited_for n.rules a.term) → IsCause n a (cause_by t u w a.loc a.term)
    decided t u w lives ready waits = subst (IsCause n a)
        (go t u (dead (standing n.places) a.loc) refl lives ready waits) (cause_is n sound a there)
      where
        and_false : (b : Bool) → b && false ≡ false
        and_false true = refl
        and_false false = refl

        by_ready : (u : Bool) → (u ≡ false → w ≡ is_waited_for n.rules a.term)
            → cond u cause.Ready (cause_of_term n a.loc a.term)
            ≡ cond u cause.Ready (cause_by_term w a.loc a.term)
        by_ready true waits = refl
        by_ready false waits =
            sym (term_as a.term refl) ∙ ap (λ x. cause_by_term x a.loc a.term) (sym (waits refl))

        go : (t u d : Bool) → dead (standing n.places) a.loc ≡ d
            → t ≡ live (standing n.places) a.loc → u ≡ is_ready_atom n a a.term
            → (u ≡ false → w ≡ is_waited_for n.rules a.term)
            → cause_of n a ≡ cause_by t u w a.loc a.term
        go t u true c lives ready waits =
            let dies : t ≡ false =
            lives ∙ ap (λ d. is_there (standing n.places a.loc) && not d) c
            ∙ and_false (is_there (standing n.places a.loc)) in
            ap (λ d. cond d
            cause.Dead (cond (is_ready_atom n a a.term) cause.Ready (cause_of_term n a.loc a.term)))
            c
            ∙ sym
            (ap (λ x. cond x (cond u cause.Ready (cause_by_term w a.loc a.term)) cause.Dead) dies)
        go t u false c lives ready waits =
            let is : t ≡ true =
            lives ∙ ap (λ d. is_there (standing n.places a.loc) && not d) c
            ∙ ap (λ x. x && true) stands in
            ap (λ d. cond d
            cause.Dead (cond (is_ready_atom n a a.term) cause.Ready (cause_of_term n a.loc a.term)))
            c
            ∙ ap (λ x. cond x cause.Ready (cause_of_term n a.loc a.term)) (sym ready)
            ∙ by_ready u waits
            ∙ sym
            (ap (λ x. cond x (cond u cause.Ready (cause_by_term w a.loc a.term)) cause.Dead) is)

pub causes_decided : CausesAreDecided
causes_decided n sound a there t u w lives ready waits =
    decided n sound a there t u w lives ready waits

-- ---- a set of channels in place of a walk over the messages

turn : (x y : Ref) → same_ref x y ≡ true → same_ref y x ≡ true
turn x y c = ap (λ (z : Ref). same_ref y z) (same_ref_is x y c)
    ∙ ap (λ (z : Ref). same_ref z y) (sym (same_ref_is x y c)) ∙ c

ref_turned : (x y : Ref) → same_ref x y ≡ same_ref y x
ref_turned x y = go (same_ref x y) refl (same_ref y x) refl
  where
    go : (t : Bool) → same_ref x y ≡ t → (u : Bool) → same_ref y x ≡ u → same_ref x y ≡ same_ref y x
    go true c true d = c ∙ sym d
    go false c false d = c ∙ sym d
    go true c false d = absurd (false≢true (sym d ∙ turn x y c))
    go false c true d = absurd (false≢true (sym c ∙ turn y x d))

count_turned : (i j : ℕ) → (i == j) ≡ (j == i)
count_turned i j = grind (arith, nat_tests)

nothing_received : (t : Bool) → is_some (cond t nothing nothing) ≡ false
nothing_received true = refl
nothing_received false = refl

module _ (n : Numbered) (sound : IsSound n) (keys : List Key) (all : HasMessages n.atoms keys) where
  -- a message at its home is received there exactly where it is on the pattern's channel with its
  -- count
  received_as : (l : Loc) (p : Pat) (a : NumberedAtom) → IsKnown (IsHomedAt l) p.on → IsAtom n a
      → receives l p a ≡ is_on p.on (length p.params) a.term
  received_as l p a home is = go a.term is.1
    where
      go : (q : Process) → IsSettled n.seen (IsNameOf n) a.loc q
          → is_some (cond (same_loc a.loc l) (received p q) None) ≡ is_on p.on (length p.params) q
      go (Msg x vs) h =
          same (waits_for x (length vs) p) refl (receives_as l p a.loc (Msg x vs)) refl
        where
          turned : same_ref x p.on && (length vs == length p.params) ≡ waits_for x (length vs) p
          turned = ap (λ t. t && (length vs == length p.params)) (ref_turned x p.on)
              ∙ ap (λ t. same_ref p.on x && t) (count_turned (length vs) (length p.params))

          same : (t : Bool) → waits_for x (length vs) p ≡ t → (u : Bool)
              → receives_as l p a.loc (Msg x vs) ≡ u
              → receives_as l p a.loc (Msg x vs) ≡ same_ref x p.on && (length vs == length p.params)
          same true c u d = waits_received l a.loc p x vs home h.2 c ∙ sym c ∙ sym turned
          same false c true d = absurd (false≢true (sym c ∙ received_waits l a.loc p x vs d))
          same false c false d = d ∙ sym c ∙ sym turned
      go (Par ps) h = nothing_received (same_loc a.loc l)
      go (Def ds q) h = nothing_received (same_loc a.loc l)
      go (Go b k) h = nothing_received (same_loc a.loc l)
      go (Fail b k) h = nothing_received (same_loc a.loc l)
      go Halt h = nothing_received (same_loc a.loc l)

  met_as : (l : Loc) (p : Pat) → IsKnown (IsHomedAt l) p.on → (atoms : List NumberedAtom)
      → Each (IsAtom n) atoms
      → list_any (λ (a : NumberedAtom). is_on p.on (length p.params) a.term) atoms
      ≡ is_met atoms l p
  met_as l p home [] h = refl
  met_as l p home (a ∷ atoms) h =
      ap (λ t. t || list_any (λ (b : NumberedAtom). is_on p.on (length p.params) b.term) atoms)
      (sym (received_as l p a home h.0)) ∙ ap (λ t. receives l p a || t) (met_as l p home atoms h.1)

  homed : (l : Loc) (x : Ref) → IsKnown (IsHomedAt l) x → IsChannel x
  homed l (Binder b) h = h
  homed l (Known (name.Seen i)) h = h
  homed l (Known (name.Place a)) h = h
  homed l (Known (name.Chan s k e)) h = tt
  homed l (Known (name.Num i)) h = h
  homed l (Known (name.Op i)) h = h

  all_as : (l : Loc) (ps : List Pat)
      → Each (λ (p : Pat). IsKnown (IsNameOf n) p.on × IsKnown (IsHomedAt l) p.on) ps
      → list_all (λ (p : Pat). has keys p.on (length p.params)) ps ≡ list_all (is_met n.atoms l) ps
  all_as l [] h = refl
  all_as l (p ∷ ps) h =
      ap (λ t. t && list_all (λ (q : Pat). has keys q.on (length q.params)) ps)
      (all p.on (homed l p.on h.0.1) (length p.params) ∙ met_as l p h.0.1 n.atoms sound.atoms)
      ∙ ap (λ t. is_met n.atoms l p && t) (all_as l ps h.1)

pub channels_tell : ChannelsTellWhatIsMet
channels_tell n sound keys all r there =
    all_as n sound keys all r.loc r.pats (each_in (IsRule n) n.rules r there sound.rules).channels
