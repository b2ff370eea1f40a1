-- What a walk over the rules finds out of an atom, and the cause as a function of it.
use Rattle.std.specs.Prelude.{ℕ, List, Some, Bool, false, ◌&&◌, ◌||◌, cond, is_some}
use Rattle.std.specs.Prelude.{length}
use Rattle.std.specs.List.{list_any, list_all}
use Rattle.chem_model.specs.declared.name.Loc.{Loc}
use Rattle.chem_model.specs.declared.name.Name.TheVariants as name
use Rattle.chem_model.specs.declared.name.Ref.{Ref}
use Rattle.chem_model.specs.declared.name.Ref.TheVariants.{Binder, Known}
use Rattle.chem_model.specs.declared.name.Pat.{Pat}
use Rattle.chem_model.specs.declared.numbered.NumberedRule.{NumberedRule}
use Rattle.chem_model.specs.declared.numbered.NumberedAtom.{NumberedAtom}
use Rattle.chem_model.specs.declared.numbered.Numbered.{Numbered}
use Rattle.chem_model.specs.Process.{Process, Msg, Par, Def, Go, Fail, Halt}
use Rattle.chem_model.specs.Solution.{host_of, dead, live}
use Rattle.chem_model.specs.Numbered.{standing}
use Rattle.chem_model.specs.Apply.{received_at, move_atom, halt_atom, detect_atom}
use Rattle.chem_causes.specs.declared.cause.Cause.{Cause}
use Rattle.chem_causes.specs.declared.cause.Cause.TheVariants as cause
use Rattle.chem_causes.specs.Cause.{waits_for, has_pattern}

-- the pattern receives this atom at the location
abbrev pub receives : Loc → Pat → NumberedAtom → Bool
receives l p a = is_some (received_at l p (Some a))

-- a message at the location is received by the pattern
abbrev pub is_met : List NumberedAtom → Loc → Pat → Bool
is_met atoms l p = list_any (receives l p) atoms

-- a rule stands at a live location, and each of its patterns is met
abbrev pub is_ready : Numbered → NumberedRule → Bool
is_ready n r = live (standing n.places) r.loc && list_all (is_met n.atoms r.loc) r.pats

-- a request that can be met
abbrev pub can_act : Numbered → NumberedAtom → Bool
can_act n a =
    is_some (move_atom n a.id a.loc a.term)
    || (is_some (halt_atom n a.id a.loc a.term) || is_some (detect_atom n a.id a.loc a.term))

-- a rule is ready and has a pattern on this channel with this count
abbrev pub takes_up : Numbered → Ref → ℕ → NumberedRule → Bool
takes_up n x count r = list_any (waits_for x count) r.pats && is_ready n r

-- some rule is: which message of the channel it is doesn't count
abbrev pub is_taken_up : Numbered → Ref → ℕ → Bool
is_taken_up n x count = list_any (takes_up n x count) n.rules

-- some event is possible that takes the message or makes the request
abbrev pub is_ready_atom : Numbered → NumberedAtom → Process → Bool
is_ready_atom n a (Msg x vs) = is_taken_up n x (length vs)
is_ready_atom n a (Par ps) = false
is_ready_atom n a (Def ds p) = false
is_ready_atom n a (Go b k) = can_act n a
is_ready_atom n a (Fail b k) = can_act n a
is_ready_atom n a Halt = can_act n a

-- ---- the cause where the location is live and no such event is possible

abbrev pub cause_of_message : List NumberedRule → Ref → ℕ → Cause
cause_of_message rules (Binder b) c = cause.Count
cause_of_message rules (Known (name.Seen i)) c = cause.Count
cause_of_message rules (Known (name.Place a)) c = cause.Place
cause_of_message rules (Known (name.Chan s k h)) c =
    cond (has_pattern rules (Known (name.Chan s k h)) c) cause.Partner cause.Count
cause_of_message rules (Known (name.Num i)) c = cause.Number
cause_of_message rules (Known (name.Op i)) c = cause.Operation

abbrev pub cause_of_go : Numbered → Loc → Ref → Cause
cause_of_go n l (Binder b) = cause.Target
cause_of_go n l (Known (name.Seen i)) = cause.Target
cause_of_go n l (Known (name.Chan s k h)) = cause.Target
cause_of_go n l (Known (name.Num i)) = cause.Target
cause_of_go n l (Known (name.Op i)) = cause.Target
cause_of_go n l (Known (name.Place b)) =
    cond (is_some (host_of (standing n.places l)))
    (cond (is_some (host_of (standing n.places b))) cause.NoSite cause.Gone) cause.Root

abbrev pub cause_of_fail : Ref → Cause
cause_of_fail (Binder b) = cause.Target
cause_of_fail (Known (name.Seen i)) = cause.Target
cause_of_fail (Known (name.Chan s k h)) = cause.Target
cause_of_fail (Known (name.Num i)) = cause.Target
cause_of_fail (Known (name.Op i)) = cause.Target
cause_of_fail (Known (name.Place a)) = cause.Alive

abbrev pub cause_of_term : Numbered → Loc → Process → Cause
cause_of_term n l (Msg x vs) = cause_of_message n.rules x (length vs)
cause_of_term n l (Par ps) = cause.Count
cause_of_term n l (Def ds p) = cause.Count
cause_of_term n l (Go b k) = cause_of_go n l b
cause_of_term n l (Fail a k) = cause_of_fail a
cause_of_term n l Halt = cause.Dead

-- ---- the cause of an atom

abbrev pub cause_of : Numbered → NumberedAtom → Cause
cause_of n a =
    cond (dead (standing n.places) a.loc) cause.Dead
    (cond (is_ready_atom n a a.term) cause.Ready (cause_of_term n a.loc a.term))
