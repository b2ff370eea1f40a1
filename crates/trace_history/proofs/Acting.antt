-- What a request that can be met asks for: what can never be met can't be, and no more can a
-- detection whose target isn't dead. So an older request that can be met is a candidate.
use Rattle.std.proofs.Common.{◌≡◌, Option, Some, None, Bool, true, false, cond, ap, sym, ◌∙◌, refl}
use Rattle.std.proofs.Common.{arith, ◌&&◌, ◌||◌, ◌==◌, inl, inr, is_some}
use Rattle.std.specs.Prelude.{not}
use Rattle.std.proofs.lemmas.Bool.{and_parts}
use Rattle.std.proofs.lemmas.Bool.Decides.{nat_tests}
use Rattle.chem_model.specs.declared.name.Loc.{Loc}
use Rattle.chem_model.specs.declared.name.Name.TheVariants as name
use Rattle.chem_model.specs.declared.name.Ref.TheVariants.{Binder, Known}
use Rattle.chem_model.specs.declared.event.AtomId.{AtomId}
use Rattle.chem_model.specs.declared.numbered.NumberedAtom.{NumberedAtom}
use Rattle.chem_model.specs.declared.numbered.Numbered.{Numbered}
use Rattle.chem_model.specs.Process.{Process, Msg, Par, Def, Go, Fail, Halt}
use Rattle.chem_model.specs.Solution.{is_there, dead, live}
use Rattle.chem_model.specs.Numbered.{standing}
use Rattle.chem_model.specs.Apply.{can_go, can_fall, falls, can_detect, move_atom, halt_atom}
use Rattle.chem_model.specs.Apply.{detect_atom}
use Rattle.chem_laws.proofs.Lists.{either_true}
use Rattle.chem_laws.proofs.Places.{live_parts}
use Rattle.chem_causes.specs.Ready.{can_act}
use Rattle.book_store.specs.Candidates.{IsCandidate}
use Rattle.book_store.specs.Asked.{goal, awaited, is_halt, has_host, atom_pair, IsNever}
use Rattle.book_store.specs.Asked.{asks_nothing, at_dead, from_root, to_hosted, to_dead, IsAsked}
use Rattle.book_store.specs.declared.asking.Asking.{Asking}

-- what can be met: a halt at a live location, a go that moves or falls, or a detection
pub data Acts (n : Numbered) (l : Loc) (q : Process) : Type 0 where
  halts : is_halt q ≡ true → live (standing n.places) l ≡ true → Acts n l q
  goes : (b : Loc) → goal q ≡ Some b → can_go n l b || falls n l b ≡ true → Acts n l q
  detects : (t : Loc) → awaited q ≡ Some t → can_detect n l t ≡ true → Acts n l q

when_some : {X : Type 0} (t : Bool) (o : Option X) → is_some (cond t o None) ≡ true → t ≡ true
when_some true o h = refl
when_some false o h = cc

when_either : {X : Type 0} (t u : Bool) (o p : Option X)
    → is_some (cond t o (cond u p None)) ≡ true → t || u ≡ true
when_either true u o p h = refl
when_either false u o p h = when_some u p h

or_false : (t : Bool) → t || false ≡ true → t ≡ true
or_false true h = refl
or_false false h = cc

pub acts : (n : Numbered) (i : AtomId) (l : Loc) (q : Process)
    → is_some (move_atom n i l q) || (is_some (halt_atom n i l q) || is_some (detect_atom n i l q))
    ≡ true → Acts n l q
acts n i l (Msg x vs) h = cc
acts n i l (Par ps) h = cc
acts n i l (Def ds p) h = cc
acts n i l (Go (Known (name.Place b)) k) h = goes b refl (when_either (can_go n l b) (falls n l b)
    _ _ (or_false (is_some (move_atom n i l (Go (Known (name.Place b)) k))) h))
acts n i l (Go (Known (name.Seen j)) k) h = cc
acts n i l (Go (Known (name.Chan s j g)) k) h = cc
acts n i l (Go (Known (name.Num j)) k) h = cc
acts n i l (Go (Known (name.Op j)) k) h = cc
acts n i l (Go (Binder b) k) h = cc
acts n i l (Fail (Known (name.Place t)) k) h = detects t refl (when_some (can_detect n l t) _ h)
acts n i l (Fail (Known (name.Seen j)) k) h = cc
acts n i l (Fail (Known (name.Chan s j g)) k) h = cc
acts n i l (Fail (Known (name.Num j)) k) h = cc
acts n i l (Fail (Known (name.Op j)) k) h = cc
acts n i l (Fail (Binder b) k) h = cc
acts n i l Halt h = halts refl
    (when_some (live (standing n.places) l) _ (or_false (is_some (halt_atom n i l Halt)) h))

halt_goal : (q : Process) (b : Loc) → is_halt q ≡ true → goal q ≡ Some b → ⊥
halt_goal Halt b h e = cc
halt_goal (Msg x vs) b h e = cc
halt_goal (Par ps) b h e = cc
halt_goal (Def ds p) b h e = cc
halt_goal (Go c k) b h e = cc
halt_goal (Fail c k) b h e = cc

halt_awaited : (q : Process) (b : Loc) → is_halt q ≡ true → awaited q ≡ Some b → ⊥
halt_awaited Halt b h e = cc
halt_awaited (Msg x vs) b h e = cc
halt_awaited (Par ps) b h e = cc
halt_awaited (Def ds p) b h e = cc
halt_awaited (Go c k) b h e = cc
halt_awaited (Fail c k) b h e = cc

goal_awaited : (q : Process) (b t : Loc) → goal q ≡ Some b → awaited q ≡ Some t → ⊥
goal_awaited Halt b t h e = cc
goal_awaited (Msg x vs) b t h e = cc
goal_awaited (Par ps) b t h e = cc
goal_awaited (Def ds p) b t h e = cc
goal_awaited (Go c k) b t h e = cc
goal_awaited (Fail c k) b t h e = cc

same_place : (o : Option Loc) (b c : Loc) → o ≡ Some b → o ≡ Some c → b ≡ c
same_place o b c e f = let g : Some b ≡ Some c = sym e ∙ f in cc

not_both : {X : Type 0} (t : Bool) → not t ≡ true → t ≡ true → X
not_both true h g = cc
not_both false h g = cc

false_true : {X : Type 0} (t : Bool) → t ≡ false → t ≡ true → X
false_true t e f = let wrong : false ≡ true = sym e ∙ f in cc

module _ (n : Numbered) (l : Loc) where
  -- a go that moves or falls: from a live location with a host to one without a host; a dead one
  -- only in version 2
  record Goes (b : Loc) : Type 0 where
    lives : live (standing n.places) l ≡ true
    hosted : has_host (standing n.places) l ≡ true
    open_to : not (has_host (standing n.places) b) ≡ true
    dead_to : dead (standing n.places) b ≡ true → n.version ≡ 2

  moves : (b : Loc) → can_go n l b ≡ true → Goes b
  moves b h =
      let both = and_parts (live (standing n.places) l && has_host (standing n.places) l)
      (live (standing n.places) b && not (has_host (standing n.places) b)) h in
      let first = and_parts (live (standing n.places) l) (has_host (standing n.places) l) both.0 in
      let second =
      and_parts (live (standing n.places) b) (not (has_host (standing n.places) b)) both.1 in
      record {
        lives = first.0;
        hosted = first.1;
        open_to = second.1;
        dead_to = λ d. false_true (dead (standing n.places) b)
            (live_parts (standing n.places) b second.0).1 d;
      }

  fall : (b : Loc) → falls n l b ≡ true → Goes b
  fall b h =
      let version = and_parts (n.version == 2) (can_fall n l b) h in
      let both = and_parts (live (standing n.places) l && has_host (standing n.places) l)
      ((is_there (standing n.places b) && dead (standing n.places) b)
      && not (has_host (standing n.places) b)) version.1 in
      let first = and_parts (live (standing n.places) l) (has_host (standing n.places) l) both.0 in
      let second = and_parts (is_there (standing n.places b) && dead (standing n.places) b)
      (not (has_host (standing n.places) b)) both.1 in
      record {
        lives = first.0;
        hosted = first.1;
        open_to = second.1;
        dead_to = λ d. let is = version.0 in grind (arith, nat_tests);
      }

  either_way : (b : Loc) → can_go n l b || falls n l b ≡ true → Goes b
  either_way b h = elim (either_true (can_go n l b) (falls n l b) h) [
    | inl moving ↦ moves b moving
    | inr falling ↦ fall b falling
  ]

  detect_dead : (t : Loc) → can_detect n l t ≡ true → dead (standing n.places) t ≡ true
  detect_dead t h = (and_parts (is_there (standing n.places t)) (dead (standing n.places) t)
      (and_parts (live (standing n.places) l)
      (is_there (standing n.places t) && dead (standing n.places) t) h).1).1

  -- only at a live location
  pub acts_live : (q : Process) → Acts n l q → live (standing n.places) l ≡ true
  acts_live q (halts h g) = g
  acts_live q (goes b e h) = (either_way b h).lives
  acts_live q (detects t e h) = (and_parts (live (standing n.places) l)
      (is_there (standing n.places t) && dead (standing n.places) t) h).0

  module _ (q : Process) where
    pub never_acts : IsNever n.version (standing n.places) l q → Acts n l q → ⊥
    never_acts (at_dead d) a = false_true (dead (standing n.places) l)
        (live_parts (standing n.places) l (acts_live q a)).1 d
    never_acts (asks_nothing h g f) (halts e c) = false_true (is_halt q) h e
    never_acts (asks_nothing h g f) (goes b e c) = let wrong : None ≡ Some b = sym g ∙ e in cc
    never_acts (asks_nothing h g f) (detects t e c) = let wrong : None ≡ Some t = sym f ∙ e in cc
    never_acts (from_root b e there h) (halts g c) = halt_goal q b g e
    never_acts (from_root b e there h) (goes d g c) =
        false_true (has_host (standing n.places) l) h (either_way d c).hosted
    never_acts (from_root b e there h) (detects t g c) = goal_awaited q b t e g
    never_acts (to_hosted b e h) (halts g c) = halt_goal q b g e
    never_acts (to_hosted b e h) (goes d g c) =
        not_both (has_host (standing n.places) d) (either_way d c).open_to
        (ap (has_host (standing n.places)) (same_place (goal q) d b g e) ∙ h)
    never_acts (to_hosted b e h) (detects t g c) = goal_awaited q b t e g
    never_acts (to_dead b e h other) (halts g c) = halt_goal q b g e
    never_acts (to_dead b e h other) (goes d g c) = other ((either_way d c).dead_to
        (ap (dead (standing n.places)) (same_place (goal q) d b g e) ∙ h))
    never_acts (to_dead b e h other) (detects t g c) = goal_awaited q b t e g

    pub awaiting_acts : (t : Loc) → awaited q ≡ Some t → dead (standing n.places) t ≡ false
        → Acts n l q → ⊥
    awaiting_acts t e h (halts g c) = halt_awaited q t g e
    awaiting_acts t e h (goes b g c) = goal_awaited q b t g e
    awaiting_acts t e h (detects u g c) = false_true (dead (standing n.places) t) h
        (ap (dead (standing n.places)) (same_place (awaited q) t u e g) ∙ detect_dead u c)

-- an older request that can be met is a candidate
pub asked_candidate : (n : Numbered) (s : Asking) (a : NumberedAtom)
    → IsAsked n.version (standing n.places) s a → can_act n a ≡ true
    → IsCandidate (standing n.places) s.ready a.loc (atom_pair a.id)
asked_candidate n s a (inl candidate) h = candidate
asked_candidate n s a (inr (inl waits)) h =
    absurd (awaiting_acts n a.loc a.term waits.target waits.awaits waits.alive
    (acts n a.id a.loc a.term h))
asked_candidate n s a (inr (inr never)) h =
    absurd (never_acts n a.loc a.term never (acts n a.id a.loc a.term h))
