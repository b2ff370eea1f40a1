-- The search for the event that comes first: of the rules that are ready, of the requests that can
-- be met, and of the messages that a pattern receives, the first of each.
use Rattle.std.specs.Prelude.{◌≡◌, ℕ, ◌<◌, List, [], ◌∷◌, Option, Some, None, is_some, Bool, true}
use Rattle.std.specs.Prelude.{false, cond, nat_lt, ◌==◌, ◌&&◌, ◌||◌, length}
use Rattle.chem_model.specs.declared.name.Loc.{Loc}
use Rattle.chem_model.specs.declared.name.Pat.{Pat}
use Rattle.chem_model.specs.declared.event.AtomId.{AtomId}
use Rattle.chem_model.specs.declared.event.Event.{Event}
use Rattle.chem_model.specs.declared.event.Event.TheVariants as event
use Rattle.chem_model.specs.declared.numbered.NumberedRule.{NumberedRule}
use Rattle.chem_model.specs.declared.numbered.NumberedAtom.{NumberedAtom}
use Rattle.chem_model.specs.declared.numbered.Numbered.{Numbered}
use Rattle.chem_model.specs.Process.{Process, Msg, Par, Def, Go, Fail, Halt}
use Rattle.chem_model.specs.Solution.{root}
use Rattle.chem_model.specs.Numbered.{standing}
use Rattle.chem_model.specs.Apply.{apply}
use Rattle.chem_causes.specs.Ready.{receives}
use Rattle.book_store.specs.Walk.{IsFirstOf}
use Rattle.book_store.specs.Older.{atom_before}
use Rattle.trace_history.specs.declared.book.Found.{Found}
use Rattle.trace_history.specs.First.{turns, atom_less, rule_less, IsFirst}

-- whether a member comes before the one that was found so far
abbrev pub beats : {X : Type 0} → (X → X → Bool) → X → Option X → Bool
beats before x None = true
beats before x (Some y) = before x y

-- the first of what was found so far and of the rest
abbrev pub first_of : {X : Type 0} → (X → Bool) → (X → X → Bool) → Option X → List X → Option X
first_of test before found [] = found
first_of test before found (x ∷ xs) =
    first_of test before (cond (beats before x found && test x) (Some x) found) xs

-- ---- messages

-- the message with the least number that the pattern receives has this number
abbrev pub IsLeast : List NumberedAtom → Loc → Pat → AtomId → Type 0
IsLeast atoms l p i =
    (a : NumberedAtom) × (a.id ≡ i) × IsFirstOf (receives l p) atom_before atoms (Some a)

-- the least message for each pattern
abbrev pub AreLeast : List NumberedAtom → Loc → List Pat → List AtomId → Type 0
AreLeast atoms l [] [] = Unit {0}
AreLeast atoms l (p ∷ ps) (i ∷ took) = IsLeast atoms l p i × AreLeast atoms l ps took
AreLeast atoms l [] (i ∷ took) = ⊥
AreLeast atoms l (p ∷ ps) [] = ⊥

-- ---- rules

-- the turn of the site at which a location is
abbrev pub turn : Numbered → ℕ → Loc → ℕ
turn n from l = turns (length n.counts) from (root (standing n.places) l).site

abbrev pub rule_before : Numbered → ℕ → NumberedRule → NumberedRule → Bool
rule_before n from r s =
    nat_lt (turn n from r.loc) (turn n from s.loc)
    || ((turn n from r.loc == turn n from s.loc) && rule_less r.id s.id)

-- ---- requests

abbrev pub request_before : Numbered → ℕ → NumberedAtom → NumberedAtom → Bool
request_before n from a b =
    nat_lt (turn n from a.loc) (turn n from b.loc)
    || ((turn n from a.loc == turn n from b.loc) && atom_less a.id b.id)

-- the event that meets a request
abbrev pub event_of : AtomId → Process → Option Event
event_of i (Go b k) = Some (event.Move i)
event_of i Halt = Some (event.Halt i)
event_of i (Fail a k) = Some (event.Detect i)
event_of i (Msg x vs) = None
event_of i (Par ps) = None
event_of i (Def ds p) = None

-- ---- what is answered

-- the reaction of a rule by the least message for each of its patterns
abbrev pub IsReaction : Numbered → NumberedRule → Found → Type 0
IsReaction n r f =
    (took : List AtomId) × (f.event ≡ event.React r.id took)
    × (f.site ≡ (root (standing n.places) r.loc).site) × AreLeast n.atoms r.loc r.pats took

-- the event that meets a request, where it has one
abbrev pub IsMeeting : Numbered → NumberedAtom → Option Found → Type 0
IsMeeting n a None = event_of a.id a.term ≡ None
IsMeeting n a (Some f) =
    (event_of a.id a.term ≡ Some f.event) × (f.site ≡ (root (standing n.places) a.loc).site)

-- the event that comes first and its site; or no event is possible
abbrev pub IsFound : Numbered → ℕ → Option Found → Type 0
IsFound n from None = (f : Event) → is_some (apply n f) ≡ false
IsFound n from (Some f) = IsFirst n from f.site f.event × (f.site < length n.counts)
