-- What a run in rounds does to a book.
use Rattle.std.specs.Prelude.{◌≡◌, ℕ, ◌-◌, ◌≤◌, ◌++◌, ◌⊎◌, List, length}
use Rattle.chem_model.specs.declared.event.Event.{Event}
use Rattle.chem_model.specs.ProgramFacts.{ProgramTerms}
use Rattle.trace_history.specs.Kept.{BookKept}
use Rattle.trace_history.specs.Book.{OnItsSolution, IsStuck}
use Rattle.env_store.specs.CodeParts.{CodeParts}
use Rattle.env_store.specs.CodeFacts.{IsCode}
use Rattle.env_store.specs.Reading.{IsCodeOf}
use Rattle.env_store.specs.Laws.{rules_of_group}
use Rattle.net_laws.specs.Net.{Net, Stands}
use Rattle.net_laws.specs.Opened.{RunsCode}
use Rattle.net_core.specs.Scheduling.{AreRounds, ScheduleOfRounds}
use Rattle.net_core.specs.Whole.{NetParts}

-- the network runs the code of the book's program and stands for the solution of its journal, after
-- as many events as are in it
pub record StandForOne (book : BookKept) (net : NetParts) : Type 0 where
  pub of_program : IsCodeOf book.program net.code
  pub stand : OnItsSolution book (λ n. Stands (rules_of_group book.program) net.net n)
  pub runs : RunsCode book.program net.code net.net
  pub counted : net.events ≡ length book.journal

-- the program stays; what is appended to the journal is the schedule of rounds from the network, of
-- at most as many events as the budget leaves, and the network that it leaves stands for the
-- solution of the book; the journal has at most as many events as the budget, and at the end no
-- event is possible or it has exactly that many
pub record RunsInRounds (net : NetParts) (old : BookKept) (budget : ℕ) (new : BookKept)
    : Type 0 where
  pub program : new.program ≡ old.program
  pub added : List Event
  pub end : Net
  pub journal : new.journal ≡ old.journal ++ added
  pub schedule : AreRounds net.code (budget - length old.journal) net.net added end
  pub stand : OnItsSolution new (λ n. Stands (rules_of_group new.program) end n)
  pub within : length new.journal ≤ budget
  pub ends : IsStuck new ⊎ (length new.journal ≡ budget)

-- the schedule of a program's run in rounds, by this code of the program
abbrev pub RoundsOf : ProgramTerms → CodeParts → ℕ → List Event → Type 0
RoundsOf p c budget journal =
    IsCode c × IsCodeOf p c × (end : Net) × ScheduleOfRounds p.version c budget journal end
