-- The cause of an atom as a function of what was found out of it.
use Rattle.std.specs.Prelude.{◌≡◌, ℕ, List, Bool, false, cond, ◌==◌, length}
use Rattle.std.specs.List.{list_any, list_all}
use Rattle.chem_model.specs.declared.name.Loc.{Loc}
use Rattle.chem_model.specs.declared.name.Name.TheVariants as name
use Rattle.chem_model.specs.declared.name.Ref.{Ref}
use Rattle.chem_model.specs.declared.name.Ref.TheVariants.{Binder, Known}
use Rattle.chem_model.specs.declared.numbered.NumberedRule.{NumberedRule}
use Rattle.chem_model.specs.Process.{Process, Msg, Par, Def, Go, Fail, Halt}
use Rattle.chem_causes.specs.declared.cause.Cause.{Cause}
use Rattle.chem_causes.specs.declared.cause.Cause.TheVariants as cause
use Rattle.chem_model.specs.declared.name.Pat.{Pat}
use Rattle.chem_model.specs.declared.numbered.NumberedAtom.{NumberedAtom}
use Rattle.chem_model.specs.declared.numbered.Numbered.{Numbered}
use Rattle.chem_model.specs.Each.{IsIn}
use Rattle.chem_model.specs.Numbered.{standing}
use Rattle.chem_model.specs.Solution.{live}
use Rattle.chem_model.specs.Sound.{IsSound}
use Rattle.chem_causes.specs.Cause.{has_pattern, IsChannel, IsCause}
use Rattle.chem_causes.specs.Ready.{is_met, is_ready_atom}
use Rattle.chem_causes.specs.Channels.{Key, has, is_on}

-- whether some rule has a pattern on a message's channel with its count
abbrev pub is_waited_for : List NumberedRule → Process → Bool
is_waited_for rules (Msg x vs) = has_pattern rules x (length vs)
is_waited_for rules (Par ps) = false
is_waited_for rules (Def ds p) = false
is_waited_for rules (Go b k) = false
is_waited_for rules (Fail a k) = false
is_waited_for rules Halt = false

abbrev pub cause_by_channel : Bool → Ref → Cause
cause_by_channel waited (Binder b) = cause.Count
cause_by_channel waited (Known (name.Seen i)) = cause.Count
cause_by_channel waited (Known (name.Place a)) = cause.Place
cause_by_channel waited (Known (name.Chan s k h)) = cond waited cause.Partner cause.Count
cause_by_channel waited (Known (name.Num i)) = cause.Number
cause_by_channel waited (Known (name.Op i)) = cause.Operation

-- a root is known by its number
abbrev pub cause_by_go : Loc → Ref → Cause
cause_by_go l (Binder b) = cause.Target
cause_by_go l (Known (name.Seen i)) = cause.Target
cause_by_go l (Known (name.Chan s k h)) = cause.Target
cause_by_go l (Known (name.Num i)) = cause.Target
cause_by_go l (Known (name.Op i)) = cause.Target
cause_by_go l (Known (name.Place b)) =
    cond (l.k == 0) cause.Root (cond (b.k == 0) cause.Gone cause.NoSite)

abbrev pub cause_by_fail : Ref → Cause
cause_by_fail (Binder b) = cause.Target
cause_by_fail (Known (name.Seen i)) = cause.Target
cause_by_fail (Known (name.Chan s k h)) = cause.Target
cause_by_fail (Known (name.Num i)) = cause.Target
cause_by_fail (Known (name.Op i)) = cause.Target
cause_by_fail (Known (name.Place a)) = cause.Alive

abbrev pub cause_by_term : Bool → Loc → Process → Cause
cause_by_term waited l (Msg x vs) = cause_by_channel waited x
cause_by_term waited l (Par ps) = cause.Count
cause_by_term waited l (Def ds p) = cause.Count
cause_by_term waited l (Go b k) = cause_by_go l b
cause_by_term waited l (Fail a k) = cause_by_fail a
cause_by_term waited l Halt = cause.Dead

abbrev pub cause_by : (live ready waited : Bool) → Loc → Process → Cause
cause_by live ready waited l q =
    cond live (cond ready cause.Ready (cause_by_term waited l q)) cause.Dead

-- in a sound solution this is the cause of each atom
abbrev pub CausesAreDecided : Type 0
CausesAreDecided =
    (n : Numbered) → IsSound n → (a : NumberedAtom) → IsIn a n.atoms
    → (is_live ready waited : Bool) → is_live ≡ live (standing n.places) a.loc
    → ready ≡ is_ready_atom n a a.term → (ready ≡ false → waited ≡ is_waited_for n.rules a.term)
    → IsCause n a (cause_by is_live ready waited a.loc a.term)

-- a set has exactly the channels of these messages, with their counts
abbrev pub HasMessages : List NumberedAtom → List Key → Type 0
HasMessages atoms keys =
    (x : Ref) → IsChannel x → (c : ℕ)
    → has keys x c ≡ list_any (λ (a : NumberedAtom). is_on x c a.term) atoms

-- in a sound solution such a set tells of each rule whether its patterns are met
abbrev pub ChannelsTellWhatIsMet : Type 0
ChannelsTellWhatIsMet =
    (n : Numbered) → IsSound n → (keys : List Key) → HasMessages n.atoms keys
    → (r : NumberedRule) → IsIn r n.rules
    → list_all (λ (p : Pat). has keys p.on (length p.params)) r.pats
    ≡ list_all (is_met n.atoms r.loc) r.pats
