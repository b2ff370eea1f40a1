-- What a run on one thread does to a book.
use Rattle.std.specs.Prelude.{◌≡◌, ℕ, ◌-◌, ◌≤◌, ◌++◌, ◌⊎◌, List, length}
use Rattle.chem_model.specs.declared.event.Event.{Event}
use Rattle.trace_history.specs.Kept.{BookKept}
use Rattle.trace_history.specs.Book.{OnItsSolution, IsStuck}
use Rattle.site_runner.specs.Schedule.{IsSchedule}

-- the program stays; what is appended to the journal is the schedule from its solution, of at most
-- as many events as the budget leaves; the journal has at most as many events as the budget, and at
-- the end no event is possible or it has exactly that many
pub record RunsOn (old : BookKept) (budget : ℕ) (new : BookKept) : Type 0 where
  pub program : new.program ≡ old.program
  pub added : List Event
  pub journal : new.journal ≡ old.journal ++ added
  pub schedule : OnItsSolution old (λ n. IsSchedule (budget - length old.journal) n 0 added)
  pub within : length new.journal ≤ budget
  pub ends : IsStuck new ⊎ (length new.journal ≡ budget)
