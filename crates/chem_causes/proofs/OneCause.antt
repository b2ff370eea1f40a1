-- In a sound solution each atom has a cause, and no two.
use Rattle.std.proofs.Common.{◌≡◌, ℕ, zero, suc, ◌<◌, ◌≤◌, List, [], ◌∷◌, Option, Some, None, Bool}
use Rattle.std.proofs.Common.{true, false, cond, refl, ap, sym, ◌∙◌, subst, arith, ◌⊎◌, inl, inr}
use Rattle.std.proofs.Common.{is_some, length, not, get_or, take}
use Rattle.std.proofs.lemmas.Bool.{cases_lt, and_from, or_left, or_right, true≢false}
use Rattle.chem_model.specs.declared.name.Loc.{Loc}
use Rattle.chem_model.specs.declared.name.Name.TheVariants as name
use Rattle.chem_model.specs.declared.name.Ref.{Ref}
use Rattle.chem_model.specs.declared.name.Ref.TheVariants.{Binder, Known}
use Rattle.chem_model.specs.declared.numbered.NumberedAtom.{NumberedAtom}
use Rattle.chem_model.specs.declared.numbered.Numbered.{Numbered}
use Rattle.chem_model.specs.Process.{Process, Msg, Par, Def, Go, Fail, Halt}
use Rattle.chem_model.specs.Each.{Each, IsIn}
use Rattle.chem_model.specs.Solution.{host_of, is_there, dead, live}
use Rattle.chem_model.specs.Numbered.{standing}
use Rattle.chem_model.specs.Apply.{with_marks, without, move_atom, halt_atom, detect_atom, can_go}
use Rattle.chem_model.specs.Apply.{can_detect}
use Rattle.chem_model.specs.Sound.{IsSound, IsAtom, IsSettled, IsNameOf}
use Rattle.chem_model.specs.Reduction.{continuation}
use Rattle.chem_model.specs.Pour.{pour_at}
use Rattle.chem_causes.specs.declared.cause.Cause.{Cause}
use Rattle.chem_causes.specs.declared.cause.Cause.TheVariants as cause
use Rattle.chem_causes.specs.Cause.{IsTrueOf, IsCause, EachAtomHasOneCause, order, has_pattern}
use Rattle.chem_causes.specs.Cause.{IsReady, IsLocation}
use Rattle.chem_causes.specs.Ready.{is_ready_atom, cause_of_message, cause_of_go, cause_of_fail}
use Rattle.chem_causes.specs.Ready.{cause_of_term, cause_of}
use Rattle.chem_causes.proofs.Readiness.{each_in, ready_then, then_ready}

-- ---- no two

abbrev table : List Cause
table = cause.Dead ∷ cause.Ready ∷ cause.Place ∷ cause.Number ∷ cause.Operation ∷ cause.Count
    ∷ cause.Partner ∷ cause.Target ∷ cause.Root ∷ cause.NoSite ∷ cause.Gone ∷ cause.Alive ∷ []

abbrev at_place : ℕ → Cause
at_place k = get_or table k cause.Dead

placed : (c : Cause) → at_place (order c) ≡ c
placed cause.Dead = refl
placed cause.Ready = refl
placed cause.Place = refl
placed cause.Number = refl
placed cause.Operation = refl
placed cause.Count = refl
placed cause.Partner = refl
placed cause.Target = refl
placed cause.Root = refl
placed cause.NoSite = refl
placed cause.Gone = refl
placed cause.Alive = refl

pub no_two : (n : Numbered) (a : NumberedAtom) (c d : Cause) → IsCause n a c → IsCause n a d → d ≡ c
no_two n a c d h g = go (cases_lt (order d) (order c)) (cases_lt (order c) (order d))
  where
    go : (order d < order c) ⊎ (order c ≤ order d) → (order c < order d) ⊎ (order d ≤ order c)
        → d ≡ c
    go (inl low) _ = absurd (h.first d low g.holds)
    go (inr up) (inl low) = absurd (g.first c low h.holds)
    go (inr up) (inr low) =
        let same : order d ≡ order c = omega arith in
        sym (placed d) ∙ ap at_place same ∙ placed c

-- ---- none before it

each_at : {X : Type 0} (Q : X → Type 0) (xs : List X) (k i : ℕ) (d : X) → i < k → i < length xs
    → Each Q (take k xs) → Q (get_or xs i d)
each_at Q [] k i d lt low h = absurd (omega arith)
each_at Q (x ∷ xs) zero i d lt low h = absurd (omega arith)
each_at Q (x ∷ xs) (suc k) zero d lt low h = h.0
each_at Q (x ∷ xs) (suc k) (suc i) d lt low h = each_at Q xs k i d (omega arith) (omega arith) h.1

in_table : (d : Cause) → order d < 12
in_table cause.Dead = omega arith
in_table cause.Ready = omega arith
in_table cause.Place = omega arith
in_table cause.Number = omega arith
in_table cause.Operation = omega arith
in_table cause.Count = omega arith
in_table cause.Partner = omega arith
in_table cause.Target = omega arith
in_table cause.Root = omega arith
in_table cause.NoSite = omega arith
in_table cause.Gone = omega arith
in_table cause.Alive = omega arith

none_before : (P : Cause → Type 0) (k : ℕ) → Each (λ d. P d → ⊥) (take k table) → (d : Cause)
    → order d < k → P d → ⊥
none_before P k h d lt = subst (λ (c : Cause). P c → ⊥) (placed d)
    (each_at (λ c. P c → ⊥) table k (order d) cause.Dead lt (in_table d) h)

-- ---- at least one

nothing : ⊥ → ⊥
nothing h = h

both_ways : (t : Bool) → t ≡ true → t ≡ false → ⊥
both_ways t is isnt = true≢false (sym is ∙ isnt)

module _ (n : Numbered) (sound : IsSound n) (a : NumberedAtom) (there : IsIn a n.atoms) where
  -- the atom with this term
  abbrev as_term : Process → NumberedAtom
  as_term q = record a { term = q }

  first : (c : Cause) → IsTrueOf n a c → Each (λ d. IsTrueOf n a d → ⊥) (take (order c) table)
      → IsCause n a c
  first c holds before =
      record { holds = holds; first = none_before (IsTrueOf n a) (order c) before }

  settled : (q : Process) → a.term ≡ q → IsSettled n.seen (IsNameOf n) a.loc q
  settled q is = subst (IsSettled n.seen (IsNameOf n) a.loc) is
      (each_in (IsAtom n) n.atoms a there sound.atoms).1

  stands : is_there (standing n.places a.loc) ≡ true
  stands = (each_in (IsAtom n) n.atoms a there sound.atoms).0

  -- from here on its location isn't dead, and no event takes it
  module _ (lives : dead (standing n.places) a.loc ≡ false)
      (none : is_ready_atom n a a.term ≡ false) where
    not_dead : IsTrueOf n a cause.Dead → ⊥
    not_dead h = both_ways (dead (standing n.places) a.loc) h lives

    not_ready : IsReady n a → ⊥
    not_ready r = both_ways (is_ready_atom n a a.term) (ready_then n sound a there r) none

    is_live : (l : Loc) → is_there (standing n.places l) ≡ true → dead (standing n.places) l ≡ false
        → live (standing n.places) l ≡ true
    is_live l here h =
        and_from (is_there (standing n.places l)) (not (dead (standing n.places) l)) here (ap not h)

    here_live : live (standing n.places) a.loc ≡ true
    here_live = is_live a.loc stands lives

    by_cause : (q : Process) (c : Cause) → a.term ≡ q → IsTrueOf n (as_term q) c
        → Each (λ d. IsTrueOf n (as_term q) d → ⊥) (take (order c) table) → IsCause n a c
    by_cause q c is holds before =
        first c (subst (λ (x : Process). IsTrueOf n (as_term x) c) (sym is) holds)
        (subst (λ (x : Process). Each (λ d. IsTrueOf n (as_term x) d → ⊥) (take (order c) table))
        (sym is) before)

    -- ---- messages

    of_channel : (x : Ref) (vs : List Ref) (s k : ℕ) (h : Loc) → x ≡ Known (name.Chan s k h)
        → a.term ≡ Msg (Known (name.Chan s k h)) vs → (t : Bool)
        → has_pattern n.rules (Known (name.Chan s k h)) (length vs) ≡ t
        → IsCause n a (cond t cause.Partner cause.Count)
    of_channel x vs s k h e is true c = by_cause (Msg (Known (name.Chan s k h)) vs) cause.Partner is
        (tt, c) (not_dead, (not_ready, (nothing, (nothing, (nothing, (not_count, tt))))))
      where
        not_count :
            ⊥ ⊎ (Unit {0} × (has_pattern n.rules (Known (name.Chan s k h)) (length vs) ≡ false)) → ⊥
        not_count (inl f) = f
        not_count (inr f) =
            both_ways (has_pattern n.rules (Known (name.Chan s k h)) (length vs)) c f.1
    of_channel x vs s k h e is false c = by_cause (Msg (Known (name.Chan s k h)) vs) cause.Count is
        (inr (tt, c)) (not_dead, (not_ready, (nothing, (nothing, (nothing, tt)))))

    of_message : (x : Ref) (vs : List Ref) → a.term ≡ Msg x vs
        → IsCause n a (cause_of_message n.rules x (length vs))
    of_message (Binder b) vs is = absurd (settled (Msg (Binder b) vs) is).0
    of_message (Known (name.Seen i)) vs is = by_cause (Msg (Known (name.Seen i)) vs) cause.Count is
        (inl tt) (not_dead, (not_ready, (nothing, (nothing, (nothing, tt)))))
    of_message (Known (name.Place b)) vs is =
        by_cause (Msg (Known (name.Place b)) vs) cause.Place is tt (not_dead, (not_ready, tt))
    of_message (Known (name.Num i)) vs is = by_cause (Msg (Known (name.Num i)) vs) cause.Number is
        tt (not_dead, (not_ready, (nothing, tt)))
    of_message (Known (name.Op i)) vs is = by_cause (Msg (Known (name.Op i)) vs) cause.Operation is
        tt (not_dead, (not_ready, (nothing, (nothing, tt))))
    of_message (Known (name.Chan s k h)) vs is = of_channel (Known (name.Chan s k h)) vs s k h refl
        is (has_pattern n.rules (Known (name.Chan s k h)) (length vs)) refl

    -- ---- requests

    is_target : ((Unit {0} → ⊥) ⊎ ⊥) → ⊥
    is_target (inl f) = f tt
    is_target (inr f) = f

    is_fail_target : (⊥ ⊎ (Unit {0} → ⊥)) → ⊥
    is_fail_target (inl f) = f
    is_fail_target (inr f) = f tt

    no_target : (b k : Ref) → a.term ≡ Go b k → (IsLocation (λ _. Unit {0}) b → ⊥)
        → IsCause n a cause.Target
    no_target b k is no_place = by_cause (Go b k) cause.Target is (inl no_place)
        (not_dead, (not_ready, (nothing, (nothing, (nothing, (nothing, (nothing, tt)))))))

    to_dead : (b : Loc) (k : Ref) → a.term ≡ Go (Known (name.Place b)) k
        → is_some (host_of (standing n.places a.loc)) ≡ true
        → is_some (host_of (standing n.places b)) ≡ false → (t : Bool)
        → dead (standing n.places) b ≡ t → dead (standing n.places) b ≡ true
    to_dead b k is hosted root true c = c
    to_dead b k is hosted root false c =
        let there_b : is_there (standing n.places b) ≡ true =
        (settled (Go (Known (name.Place b)) k) is).0 in
        let mover = and_from (live (standing n.places) a.loc)
        (is_some (host_of (standing n.places a.loc))) here_live hosted in
        let target = and_from (live (standing n.places) b)
        (not (is_some (host_of (standing n.places b)))) (is_live b there_b c) (ap not root) in
        let goes : can_go n a.loc b ≡ true = and_from _ _ mover target in
        let moves : is_some (move_atom n a.id a.loc (Go (Known (name.Place b)) k)) ≡ true =
        may_go (can_go n a.loc b) _ _ goes in
        absurd
        (not_ready (then_ready n sound a there (subst (λ (q : Process). is_ready_atom n a q ≡ true)
        (sym is) (or_left (is_some (move_atom n a.id a.loc a.term)) _
        (ap (λ q. is_some (move_atom n a.id a.loc q)) is ∙ moves)))))
      where
        may_go : (t : Bool) (to : Numbered) (other : Option Numbered) → t ≡ true
            → is_some (cond t (Some to) other) ≡ true
        may_go true to other e = refl
        may_go false to other e = cc

    of_place : (b : Loc) (k : Ref) → a.term ≡ Go (Known (name.Place b)) k → (t u : Bool)
        → is_some (host_of (standing n.places a.loc)) ≡ t
        → is_some (host_of (standing n.places b)) ≡ u
        → IsCause n a (cond t (cond u cause.NoSite cause.Gone) cause.Root)
    of_place b k is false u c d = by_cause (Go (Known (name.Place b)) k) cause.Root is (tt, c) (
      not_dead,
      (not_ready, (nothing, (nothing, (nothing, (nothing, (nothing, (is_target, tt))))))),
    )
    of_place b k is true true c d = by_cause (Go (Known (name.Place b)) k) cause.NoSite is d (
      not_dead,
      (
        not_ready,
        (
          nothing,
          (
            nothing,
            (
              nothing,
              (
                nothing,
                (
                  nothing,
                  (
                    is_target,
                    (λ h. both_ways (is_some (host_of (standing n.places a.loc))) c h.1, tt),
                  ),
                ),
              ),
            ),
          ),
        ),
      ),
    )
    of_place b k is true false c d = by_cause (Go (Known (name.Place b)) k) cause.Gone is
        (to_dead b k is c d (dead (standing n.places) b) refl) (
          not_dead,
          (
            not_ready,
            (
              nothing,
              (
                nothing,
                (
                  nothing,
                  (
                    nothing,
                    (
                      nothing,
                      (
                        is_target,
                        (
                          λ h. both_ways (is_some (host_of (standing n.places a.loc))) c h.1,
                          (λ h. both_ways (is_some (host_of (standing n.places b))) h d, tt),
                        ),
                      ),
                    ),
                  ),
                ),
              ),
            ),
          ),
        )

    of_go : (b k : Ref) → a.term ≡ Go b k → IsCause n a (cause_of_go n a.loc b)
    of_go (Binder b) k is = absurd (settled (Go (Binder b) k) is).0
    of_go (Known (name.Seen i)) k is = no_target (Known (name.Seen i)) k is nothing
    of_go (Known (name.Chan s j h)) k is = no_target (Known (name.Chan s j h)) k is nothing
    of_go (Known (name.Num i)) k is = no_target (Known (name.Num i)) k is nothing
    of_go (Known (name.Op i)) k is = no_target (Known (name.Op i)) k is nothing
    of_go (Known (name.Place b)) k is =
        of_place b k is (is_some (host_of (standing n.places a.loc)))
        (is_some (host_of (standing n.places b))) refl refl

    no_fail_target : (b k : Ref) → a.term ≡ Fail b k → (IsLocation (λ _. Unit {0}) b → ⊥)
        → IsCause n a cause.Target
    no_fail_target b k is no_place = by_cause (Fail b k) cause.Target is (inr no_place)
        (not_dead, (not_ready, (nothing, (nothing, (nothing, (nothing, (nothing, tt)))))))

    of_live : (b : Loc) (k : Ref) → a.term ≡ Fail (Known (name.Place b)) k → (t : Bool)
        → dead (standing n.places) b ≡ t → live (standing n.places) b ≡ true
    of_live b k is false c = is_live b (settled (Fail (Known (name.Place b)) k) is).0 c
    of_live b k is true c =
        let there_b : is_there (standing n.places b) ≡ true =
        (settled (Fail (Known (name.Place b)) k) is).0 in
        let tells : can_detect n a.loc b ≡ true =
        and_from (live (standing n.places) a.loc) _ here_live
        (and_from (is_there (standing n.places b)) (dead (standing n.places) b) there_b c) in
        let told : is_some (detect_atom n a.id a.loc (Fail (Known (name.Place b)) k)) ≡ true =
        may_tell k (can_detect n a.loc b) tells in
        absurd
        (not_ready (then_ready n sound a there (subst (λ (q : Process). is_ready_atom n a q ≡ true)
        (sym is) (or_right (is_some (move_atom n a.id a.loc a.term)) _
        (or_right (is_some (halt_atom n a.id a.loc a.term)) _
        (ap (λ q. is_some (detect_atom n a.id a.loc q)) is ∙ told))))))
      where
        may_tell : (k : Ref) (t : Bool) → t ≡ true
            → is_some (cond t
            (Some (pour_at (record n { atoms = without a.id n.atoms }) [] a.loc (continuation k)))
            None) ≡ true
        may_tell k true e = refl
        may_tell k false e = cc

    of_fail : (b k : Ref) → a.term ≡ Fail b k → IsCause n a (cause_of_fail b)
    of_fail (Binder b) k is = absurd (settled (Fail (Binder b) k) is).0
    of_fail (Known (name.Seen i)) k is = no_fail_target (Known (name.Seen i)) k is nothing
    of_fail (Known (name.Chan s j h)) k is = no_fail_target (Known (name.Chan s j h)) k is nothing
    of_fail (Known (name.Num i)) k is = no_fail_target (Known (name.Num i)) k is nothing
    of_fail (Known (name.Op i)) k is = no_fail_target (Known (name.Op i)) k is nothing
    of_fail (Known (name.Place b)) k is = by_cause (Fail (Known (name.Place b)) k) cause.Alive is
        (of_live b k is (dead (standing n.places) b) refl) (
          not_dead,
          (
            not_ready,
            (
              nothing,
              (
                nothing,
                (
                  nothing,
                  (nothing, (nothing, (is_fail_target, (λ h. h.0, (nothing, (nothing, tt)))))),
                ),
              ),
            ),
          ),
        )

    of_halt : (c : Cause) → a.term ≡ Halt → IsCause n a c
    of_halt c is =
        let halts : is_some (halt_atom n a.id a.loc Halt) ≡ true =
        may_halt (live (standing n.places) a.loc) here_live in
        absurd
        (not_ready (then_ready n sound a there (subst (λ (q : Process). is_ready_atom n a q ≡ true)
        (sym is) (or_right (is_some (move_atom n a.id a.loc a.term)) _
        (or_left (is_some (halt_atom n a.id a.loc a.term)) _
        (ap (λ q. is_some (halt_atom n a.id a.loc q)) is ∙ halts))))))
      where
        may_halt : (t : Bool) → t ≡ true → is_some (cond t (Some (record n {
          places = with_marks a.loc n.places;
          atoms = without a.id n.atoms;
        })) None) ≡ true
        may_halt true e = refl
        may_halt false e = cc

    pub of_term : (q : Process) → a.term ≡ q → IsCause n a (cause_of_term n a.loc q)
    of_term (Msg x vs) is = of_message x vs is
    of_term (Par ps) is = absurd (settled (Par ps) is)
    of_term (Def ds p) is = absurd (settled (Def ds p) is)
    of_term (Go b k) is = of_go b k is
    of_term (Fail b k) is = of_fail b k is
    of_term Halt is = of_halt cause.Dead is

  pub cause_is : IsCause n a (cause_of n a)
  cause_is = go (dead (standing n.places) a.loc) refl (is_ready_atom n a a.term) refl
    where
      go : (t : Bool) → dead (standing n.places) a.loc ≡ t → (u : Bool)
          → is_ready_atom n a a.term ≡ u
          → IsCause n a (cond t cause.Dead (cond u cause.Ready (cause_of_term n a.loc a.term)))
      go true c u d = first cause.Dead c tt
      go false c true d = first cause.Ready (then_ready n sound a there d)
          (λ h. both_ways (dead (standing n.places) a.loc) h c, tt)
      go false c false d = of_term c d a.term refl

pub one_cause : EachAtomHasOneCause
one_cause n sound a there = (
  cause_of n a,
  cause_is n sound a there,
  λ d is. no_two n a (cause_of n a) d (cause_is n sound a there) is,
)
