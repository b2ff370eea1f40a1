-- Where older requests wait: one that can be met is a candidate, a detection waits for the death of
-- its target, and all others can never be met.
use Rattle.std.specs.Prelude.{◌≡◌, ℕ, ◌⊎◌, List, Option, Some, None, is_some, Bool, true, false}
use Rattle.chem_model.specs.declared.name.Loc.{Loc}
use Rattle.chem_model.specs.declared.name.Name.TheVariants as name
use Rattle.chem_model.specs.declared.name.Ref.TheVariants.{Known}
use Rattle.chem_model.specs.declared.event.AtomId.{AtomId}
use Rattle.chem_model.specs.declared.numbered.NumberedAtom.{NumberedAtom}
use Rattle.chem_model.specs.Process.{Process, Go, Fail, Halt}
use Rattle.chem_model.specs.Each.{IsIn}
use Rattle.chem_model.specs.Solution.{Places, host_of, is_there, dead, within}
use Rattle.chem_model.specs.Apply.{atom_at}
use Rattle.book_store.specs.Keys.{Key, KeepsKeys, place_number}
use Rattle.book_store.specs.Candidates.{IsCandidate, KeepsCandidates}
use Rattle.book_store.specs.declared.asking.Asking.{Asking}

abbrev pub atom_pair : AtomId → ℕ × ℕ
atom_pair i = (i.site, i.k)

-- where a go leads, and whose failure a fail waits for
abbrev pub goal : Process → Option Loc
goal (Go (Known (name.Place b)) k) = Some b
goal _ = None

abbrev pub awaited : Process → Option Loc
awaited (Fail (Known (name.Place t)) k) = Some t
awaited _ = None

abbrev pub is_halt : Process → Bool
is_halt Halt = true
is_halt _ = false

abbrev pub has_host : Places → Loc → Bool
has_host pl l = is_some (host_of (pl l))

-- what can't be met, and stays so: it is no request; its location is dead; it is a go from a root;
-- or it is a go to a location that has a host, or in version 1 to one that is dead
pub data IsNever (version : ℕ) (pl : Places) (l : Loc) (q : Process) : Type 0 where
  asks_nothing : is_halt q ≡ false → goal q ≡ None → awaited q ≡ None → IsNever version pl l q
  at_dead : dead pl l ≡ true → IsNever version pl l q
  from_root : (b : Loc) → goal q ≡ Some b → is_there (pl l) ≡ true → has_host pl l ≡ false
      → IsNever version pl l q
  to_hosted : (b : Loc) → goal q ≡ Some b → has_host pl b ≡ true → IsNever version pl l q
  to_dead : (b : Loc) → goal q ≡ Some b → dead pl b ≡ true → (version ≡ 2 → ⊥)
      → IsNever version pl l q

-- a detection waits for a location that isn't dead, and is filed there
pub record IsAwaiting (pl : Places) (s : Asking) (a : NumberedAtom) : Type 0 where
  pub target : Loc
  pub awaits : awaited a.term ≡ Some target
  pub alive : dead pl target ≡ false
  pub at : IsIn {X = Key} (place_number target, atom_pair a.id) s.awaits.keys

abbrev pub IsAsked : ℕ → Places → Asking → NumberedAtom → Type 0
IsAsked version pl s a =
    IsCandidate pl s.ready a.loc (atom_pair a.id)
    ⊎ (IsAwaiting pl s a ⊎ IsNever version pl a.loc a.term)

abbrev pub AreAsked : ℕ → Places → Asking → List NumberedAtom → Type 0
AreAsked version pl s atoms = (a : NumberedAtom) → IsIn a atoms → IsAsked version pl s a

-- none that waits for the location or for one within it is left but as a candidate
abbrev pub AreCalled : ℕ → Places → Asking → Loc → List NumberedAtom → Type 0
AreCalled version pl s l atoms = (a : NumberedAtom) → IsIn a atoms
    → IsAsked version pl s a
    × ((t : Loc) → awaited a.term ≡ Some t → within pl t l ≡ true
    → IsCandidate pl s.ready a.loc (atom_pair a.id) ⊎ IsNever version pl a.loc a.term)

-- nothing is lost
pub record KeepsAsking (old new : Asking) : Type 0 where
  pub awaits : KeepsKeys old.awaits.keys new.awaits.keys
  pub ready : KeepsCandidates old.ready new.ready

-- the request with this number, if there is one, is a candidate, where it waits for the location or
-- for one within it
abbrev pub IsCalledAt : Places → Asking → Loc → List NumberedAtom → AtomId → Type 0
IsCalledAt pl s l atoms i = (a : NumberedAtom) (t : Loc) → atom_at atoms i ≡ Some a
    → awaited a.term ≡ Some t → within pl t l ≡ true
    → IsCandidate pl s.ready a.loc (atom_pair a.id)

-- each key of what may wait for the location, or for one within it: for a root these are all
abbrev pub HasAllWithin : Loc → List Key → List Key → Type 0
HasAllWithin l keys list = (k : Key) → IsIn k keys
    → (l.k ≡ 0) ⊎ (k.0 ≡ place_number l) → IsIn k list

-- nothing is lost but what has this number
abbrev pub KeepsBut : AtomId → List Key → List Key → Type 0
KeepsBut i old new = (k : Key) → IsIn k old → (k.1 ≡ atom_pair i) ⊎ IsIn k new

pub record KeepsAskingBut (i : AtomId) (old new : Asking) : Type 0 where
  pub awaits : KeepsBut i old.awaits.keys new.awaits.keys
  pub sites : KeepsBut i old.ready.sites.keys new.ready.sites.keys
  pub places : KeepsBut i old.ready.places.keys new.ready.places.keys
