-- Why a message or a request is left: of a table of causes the first that is true of it.
use Rattle.std.specs.Prelude.{◌≡◌, ◌⊎◌, ℕ, ◌<◌, List, Bool, true, false, ◌&&◌, ◌==◌, is_some}
use Rattle.std.specs.Prelude.{length}
use Rattle.std.specs.List.{list_any}
use Rattle.chem_model.specs.declared.name.Loc.{Loc}
use Rattle.chem_model.specs.declared.name.Name.TheVariants as name
use Rattle.chem_model.specs.declared.name.Ref.{Ref}
use Rattle.chem_model.specs.declared.name.Ref.TheVariants.{Binder, Known}
use Rattle.chem_model.specs.declared.name.Pat.{Pat}
use Rattle.chem_model.specs.declared.event.Event.{Event}
use Rattle.chem_model.specs.declared.numbered.NumberedRule.{NumberedRule}
use Rattle.chem_model.specs.declared.numbered.NumberedAtom.{NumberedAtom}
use Rattle.chem_model.specs.declared.numbered.Numbered.{Numbered}
use Rattle.chem_model.specs.Process.{Process, Msg, Par, Def, Go, Fail, Halt}
use Rattle.chem_model.specs.Solution.{host_of, dead, live}
use Rattle.chem_model.specs.Numbered.{standing}
use Rattle.chem_model.specs.Apply.{same_ref, apply}
use Rattle.chem_model.specs.Sound.{IsSound}
use Rattle.chem_model.specs.Each.{IsIn}
use Rattle.chem_laws.specs.Twice.{taken_by}
use Rattle.chem_causes.specs.declared.cause.Cause.{Cause}
use Rattle.chem_causes.specs.declared.cause.Cause.TheVariants as cause

-- ---- what an atom is

-- a message of whose channel and count this holds
abbrev pub IsMessage : (Ref → ℕ → Type 0) → Process → Type 0
IsMessage P (Msg x vs) = P x (length vs)
IsMessage P (Par ps) = ⊥
IsMessage P (Def ds p) = ⊥
IsMessage P (Go b k) = ⊥
IsMessage P (Fail a k) = ⊥
IsMessage P Halt = ⊥

-- a request to go of whose target this holds
abbrev pub IsGo : (Ref → Type 0) → Process → Type 0
IsGo P (Go b k) = P b
IsGo P (Msg x vs) = ⊥
IsGo P (Par ps) = ⊥
IsGo P (Def ds p) = ⊥
IsGo P (Fail a k) = ⊥
IsGo P Halt = ⊥

-- a request that waits for the failure of a target of which this holds
abbrev pub IsFail : (Ref → Type 0) → Process → Type 0
IsFail P (Fail a k) = P a
IsFail P (Msg x vs) = ⊥
IsFail P (Par ps) = ⊥
IsFail P (Def ds p) = ⊥
IsFail P (Go b k) = ⊥
IsFail P Halt = ⊥

-- ---- what an occurrence is

-- a location of which this holds
abbrev pub IsLocation : (Loc → Type 0) → Ref → Type 0
IsLocation P (Binder b) = ⊥
IsLocation P (Known (name.Seen i)) = ⊥
IsLocation P (Known (name.Place a)) = P a
IsLocation P (Known (name.Chan s k h)) = ⊥
IsLocation P (Known (name.Num i)) = ⊥
IsLocation P (Known (name.Op i)) = ⊥

abbrev pub IsObserved : Ref → Type 0
IsObserved (Binder b) = ⊥
IsObserved (Known (name.Seen i)) = Unit {0}
IsObserved (Known (name.Place a)) = ⊥
IsObserved (Known (name.Chan s k h)) = ⊥
IsObserved (Known (name.Num i)) = ⊥
IsObserved (Known (name.Op i)) = ⊥

abbrev pub IsChannel : Ref → Type 0
IsChannel (Binder b) = ⊥
IsChannel (Known (name.Seen i)) = ⊥
IsChannel (Known (name.Place a)) = ⊥
IsChannel (Known (name.Chan s k h)) = Unit {0}
IsChannel (Known (name.Num i)) = ⊥
IsChannel (Known (name.Op i)) = ⊥

abbrev pub IsNumber : Ref → Type 0
IsNumber (Binder b) = ⊥
IsNumber (Known (name.Seen i)) = ⊥
IsNumber (Known (name.Place a)) = ⊥
IsNumber (Known (name.Chan s k h)) = ⊥
IsNumber (Known (name.Num i)) = Unit {0}
IsNumber (Known (name.Op i)) = ⊥

abbrev pub IsOperation : Ref → Type 0
IsOperation (Binder b) = ⊥
IsOperation (Known (name.Seen i)) = ⊥
IsOperation (Known (name.Place a)) = ⊥
IsOperation (Known (name.Chan s k h)) = ⊥
IsOperation (Known (name.Num i)) = ⊥
IsOperation (Known (name.Op i)) = Unit {0}

-- ---- rules that wait for it

-- the pattern is on this channel and has this count
abbrev pub waits_for : Ref → ℕ → Pat → Bool
waits_for x count p = same_ref p.on x && (length p.params == count)

-- some rule has such a pattern
abbrev pub has_pattern : List NumberedRule → Ref → ℕ → Bool
has_pattern rules x count =
    list_any (λ (r : NumberedRule). list_any (waits_for x count) r.pats) rules

-- some event is possible that takes this message or makes this request
abbrev pub IsReady : Numbered → NumberedAtom → Type 0
IsReady n a = (e : Event) × (is_some (apply n e) ≡ true) × IsIn a.id (taken_by e)

-- ---- the table of the causes

-- whether a cause is true of an atom
abbrev pub IsTrueOf : Numbered → NumberedAtom → Cause → Type 0
IsTrueOf n a cause.Dead = dead (standing n.places) a.loc ≡ true
IsTrueOf n a cause.Ready = IsReady n a
IsTrueOf n a cause.Place = IsMessage (λ x c. IsLocation (λ _. Unit {0}) x) a.term
IsTrueOf n a cause.Number = IsMessage (λ x c. IsNumber x) a.term
IsTrueOf n a cause.Operation = IsMessage (λ x c. IsOperation x) a.term
IsTrueOf n a cause.Count =
    IsMessage (λ x c. IsObserved x ⊎ (IsChannel x × (has_pattern n.rules x c ≡ false))) a.term
IsTrueOf n a cause.Partner =
    IsMessage (λ x c. IsChannel x × (has_pattern n.rules x c ≡ true)) a.term
IsTrueOf n a cause.Target =
    IsGo (λ b. IsLocation (λ _. Unit {0}) b → ⊥) a.term
    ⊎ IsFail (λ b. IsLocation (λ _. Unit {0}) b → ⊥) a.term
IsTrueOf n a cause.Root =
    IsGo (λ _. Unit {0}) a.term × (is_some (host_of (standing n.places a.loc)) ≡ false)
IsTrueOf n a cause.NoSite =
    IsGo (IsLocation (λ b. is_some (host_of (standing n.places b)) ≡ true)) a.term
IsTrueOf n a cause.Gone = IsGo (IsLocation (λ b. dead (standing n.places) b ≡ true)) a.term
IsTrueOf n a cause.Alive = IsFail (IsLocation (λ b. live (standing n.places) b ≡ true)) a.term

-- the order of the table
abbrev pub order : Cause → ℕ
order cause.Dead = 0
order cause.Ready = 1
order cause.Place = 2
order cause.Number = 3
order cause.Operation = 4
order cause.Count = 5
order cause.Partner = 6
order cause.Target = 7
order cause.Root = 8
order cause.NoSite = 9
order cause.Gone = 10
order cause.Alive = 11

-- the cause of an atom: it is true of it, and none that comes before it in the table is
pub record IsCause (n : Numbered) (a : NumberedAtom) (c : Cause) : Type 0 where
  pub holds : IsTrueOf n a c
  pub first : (d : Cause) → order d < order c → IsTrueOf n a d → ⊥

-- in a sound solution each atom has a cause, and no two
abbrev pub EachAtomHasOneCause : Type 0
EachAtomHasOneCause =
    (n : Numbered) → IsSound n → (a : NumberedAtom) → IsIn a n.atoms
    → (c : Cause) × IsCause n a c × ((d : Cause) → IsCause n a d → d ≡ c)
