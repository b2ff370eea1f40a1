-- What the parts of a run in rounds leave.
use Rattle.std.specs.Prelude.{◌≡◌, ℕ, ◌-◌, ◌<◌, ◌^◌, List, [], ◌∷◌, ◌++◌, length}
use Rattle.std.specs.Prelude.{Option, Some, None}
use Rattle.chem_model.specs.declared.event.Event.{Event}
use Rattle.chem_model.specs.declared.numbered.Numbered.{Numbered}
use Rattle.chem_model.specs.ProgramFacts.{IsProgram}
use Rattle.chem_model.specs.Apply.{replay_from}
use Rattle.trace_history.specs.Kept.{BookKept, solution}
use Rattle.env_store.specs.CodeFacts.{IsCode}
use Rattle.env_store.specs.Reading.{IsCodeOf}
use Rattle.env_store.specs.Laws.{rules_of_group}
use Rattle.net_laws.specs.Net.{Net, Stands}
use Rattle.net_laws.specs.Opened.{RunsCode}
use Rattle.net_core.specs.declared.choice.Choice.{Choice}
use Rattle.net_core.specs.declared.choice.Choice.TheVariants as choice
use Rattle.net_core.specs.Acts.{Acts}
use Rattle.net_core.specs.Asking.{asks}
use Rattle.net_core.specs.Making.{Falls}
use Rattle.net_core.specs.Scheduling.{numbers, InTurn, Opens, ReadyOpensNone, Meets, Forbids}
use Rattle.net_core.specs.Whole.{NetParts}

-- the events of a choice
abbrev pub events_of : Option Event → List Event
events_of None = []
events_of (Some e) = e ∷ []

-- the book with these events behind its own
abbrev pub and_then : BookKept → List Event → BookKept
and_then book es = record { program = book.program; journal = book.journal ++ es }

-- book and network stand for one solution, with what their types keep
pub record AreOne (book : BookKept) (net : NetParts) : Type 0 where
  pub is_program : IsProgram book.program
  pub is_code : IsCode net.code
  pub of_program : IsCodeOf book.program net.code
  pub last : Numbered
  pub leads : solution book ≡ Some last
  pub stands : Stands (rules_of_group book.program) net.net last
  pub runs : RunsCode book.program net.code net.net
  pub counted : net.events ≡ length book.journal

-- the choice is made, and its event is in the book
pub record IsMade (old : NetParts) (book : BookKept) (x : Choice) (new : NetParts)
    (after : BookKept) : Type 0 where
  pub event : Option Event
  pub acts : Acts old.code old.net x event new.net
  pub falls : Falls old.net event new.net
  pub few : length new.net.packets < 2 ^ 32
  pub code : new.code ≡ old.code
  pub book_is : after ≡ and_then book (events_of event)
  pub one : AreOne after new

-- events are made and are in the book; they and the network that they leave are as R says
pub record HaveRun (R : List Event → Net → Type 0) (old : NetParts) (book : BookKept)
    (new : NetParts) (after : BookKept) : Type 0 where
  pub added : List Event
  pub runs : R added new.net
  pub code : new.code ≡ old.code
  pub book_is : after ≡ and_then book added
  pub one : AreOne after new

module _ {X : Type 0} (Makes : Net → X → Event → Net → Type 0) (Passes : Net → X → Type 0) where
  -- one of a list is made, or passed by
  pub data HasTurn (net : Net) (x : X) : List Event → Net → Type 0 where
    made : (e : Event) (new : Net) → Makes net x e new → HasTurn net x (e ∷ []) new
    passed : Passes net x → HasTurn net x [] net

-- it is no delivery
abbrev pub MeetsRequest : Choice → Type 0
MeetsRequest (choice.React i p) = ⊥
MeetsRequest (choice.Deliver f) = ⊥
MeetsRequest (choice.Move a) = Unit {0}
MeetsRequest (choice.Halt a) = Unit {0}
MeetsRequest (choice.Detect a) = Unit {0}

-- the events are possible in the book, one after another
pub record CanFollow (book : BookKept) (es : List Event) : Type 0 where
  pub after : Numbered
  pub replays : replay_from (solution book) es ≡ Some after

-- with this budget, each site makes the reaction that is ready there, if that opens a location, and
-- then the requests that stand are met
pub record RoundEnds (budget : ℕ) (old : NetParts) (book : BookKept) (new : NetParts)
    (after : BookKept) : Type 0 where
  pub mid : NetParts
  pub mid_book : BookKept
  pub opens :
      HaveRun (InTurn (Opens old.code) (ReadyOpensNone old.code) (budget - length book.journal)
      (numbers old.net) old.net) old book mid mid_book
  pub meets :
      HaveRun (InTurn (Meets mid.code) (Forbids mid.code) (budget - length mid_book.journal)
      (asks mid.net) mid.net) mid mid_book new after
