-- What a book's store keeps: each rule that was noted is watched, and each older request is asked.
use Rattle.std.specs.Prelude.{◌≡◌, List, [], Some, None, true}
use Rattle.chem_model.specs.declared.name.Loc.{Loc}
use Rattle.chem_model.specs.declared.event.AtomId.{AtomId}
use Rattle.chem_model.specs.declared.event.Event.TheVariants as event
use Rattle.chem_model.specs.declared.event.Event.{Event}
use Rattle.chem_model.specs.declared.numbered.Numbered.{Numbered}
use Rattle.chem_model.specs.Each.{Each}
use Rattle.chem_model.specs.Numbered.{standing}
use Rattle.chem_model.specs.Apply.{atom_at, falls, apply}
use Rattle.book_store.specs.Older.{Keeps}
use Rattle.book_store.specs.Watched.{AreWatched, no_number}
use Rattle.book_store.specs.Candidates.{AreAtSite}
use Rattle.book_store.specs.Asked.{AreAsked, AreCalled}
use Rattle.book_store.specs.declared.store.Store.{Store}

pub record IsStored (n : Numbered) (s : Store) : Type 0 where
  pub watched :
      AreWatched no_number (standing n.places) s.older.keys.keys s.waiting n.rules
  pub asked : AreAsked n.version (standing n.places) s.asking s.older.table

-- it keeps this also where the event is made
abbrev pub IsStoredAfter : Numbered → Event → Store → Type 0
IsStoredAfter n e s = (m : Numbered) → apply n e ≡ Some m → IsStored m s

-- nothing was set apart, and no rule was noted
pub record IsEmpty (s : Store) : Type 0 where
  pub table : s.older.table ≡ []
  pub keys : s.older.keys.keys ≡ []
  pub noted : s.waiting.noted ≡ 0

-- none of these is among the older ones
abbrev pub AreGone : Store → List AtomId → Type 0
AreGone s took = Each (λ i. atom_at s.older.table i ≡ None) took

abbrev pub move_of : AtomId → Event
move_of i = event.Move i

abbrev pub halt_of : AtomId → Event
halt_of i = event.Halt i

-- the candidates of a location are candidates at the site of another; and where it falls with it,
-- those that wait for it are candidates
pub record IsSent (n : Numbered) (s : Store) (l b : Loc) : Type 0 where
  pub rules : AreAtSite s.waiting.ready l b.site
  pub requests : AreAtSite s.asking.ready l b.site
  pub called : falls n l b ≡ true
      → AreCalled n.version (standing n.places) s.asking l s.older.table

-- messages and requests went to the store or came from it, and all else stayed
pub record Moves (old_n : Numbered) (old : Store) (new_n : Numbered) (new : Store) : Type 0 where
  pub rest : new_n ≡ record old_n { atoms = new_n.atoms }
  pub keeps : Keeps old.older.table old_n.atoms new.older.table new_n.atoms
