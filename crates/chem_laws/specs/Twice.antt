-- What the events of a journal take: no atom twice, and no event occurs twice.
use Rattle.std.specs.Prelude.{◌≡◌, ◌≢◌, ℕ, ◌≤◌, List, [], ◌∷◌, ◌++◌, Some, AllPairs}
use Rattle.chem_model.specs.declared.event.AtomId.{AtomId}
use Rattle.chem_model.specs.declared.event.Event.{Event}
use Rattle.chem_model.specs.declared.event.Event.TheVariants.{React, Move, Halt, Detect}
use Rattle.chem_model.specs.declared.numbered.Numbered.{Numbered}
use Rattle.chem_model.specs.contracts.event.AtomId as atom_id
use Rattle.chem_model.specs.ProgramFacts.{ProgramTerms, IsProgram}
use Rattle.chem_model.specs.Bag.{bag}
use Rattle.chem_model.specs.Apply.{replay}

-- the atoms that an event takes: the messages of a reaction, or the request of another event
abbrev pub taken_by : Event → List AtomId
taken_by (React rule took) = took
taken_by (Move request) = request ∷ []
taken_by (Halt request) = request ∷ []
taken_by (Detect request) = request ∷ []

-- the atoms that the events of a journal take, event by event
abbrev pub taken : List Event → List AtomId
taken [] = []
taken (e ∷ journal) = taken_by e ++ taken journal

-- how often an atom is taken by the events of a journal
abbrev pub times_taken : List Event → AtomId → ℕ
times_taken journal = bag atom_id.the_row.coded (taken journal)

-- no two events of the journal are equal, and no atom is taken more than once
pub record TakesNothingTwice (journal : List Event) : Type 0 where
  pub events : AllPairs (λ (e f : Event). e ≢ f) journal
  pub atoms : (a : AtomId) → times_taken journal a ≤ 1

-- in a journal that replays no event occurs twice, and no atom is taken twice
abbrev pub NothingIsTakenTwice : Type 0
NothingIsTakenTwice =
    (p : ProgramTerms) → IsProgram p → (journal : List Event) (n : Numbered)
    → replay p journal ≡ Some n → TakesNothingTwice journal
