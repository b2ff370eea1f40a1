-- What a run on free threads leaves: its book, and what the passes of its workers held.
use Rattle.std.specs.Prelude.{◌≡◌, ℕ, ◌+◌, ◌-◌, ◌<◌, ◌≤◌, ◌⊎◌, List, zero, suc, [], ◌∷◌, ◌++◌}
use Rattle.std.specs.Prelude.{Some, None, true, length, map}
use Rattle.chem_model.specs.Each.{Each}
use Rattle.chem_model.specs.declared.event.Event.{Event}
use Rattle.chem_model.specs.ProgramFacts.{ProgramTerms}
use Rattle.trace_history.specs.Kept.{BookKept}
use Rattle.trace_history.specs.Book.{OnItsSolution, IsStuck}
use Rattle.shared_net.specs.declared.differs.Differs.{Differs}
use Rattle.shared_net.specs.declared.receipt.Receipt.{Receipt}
use Rattle.shared_net.specs.declared.report.Worked.{Worked}
use Rattle.shared_net.specs.Agrees.{Agrees, all_receipts, times_at}
use Rattle.shared_net.specs.Causes.{IsCause, IsOfStarted}
use Rattle.shared_net.specs.Reports.{Reported}
use Rattle.site_runner.specs.Schedule.{IsSchedule, ScheduleOf}
use Rattle.site_runner.specs.declared.outcome.How.{How}
use Rattle.site_runner.specs.declared.outcome.How.TheVariants.{Alone, Rounds, Shared, Lone, Lossy}

-- the book is of the program and has at most so many events; and no event is possible or it has
-- exactly that many
pub record IsFinished (p : ProgramTerms) (budget : ℕ) (book : BookKept) : Type 0 where
  pub program : book.program ≡ p
  pub within : length book.journal ≤ budget
  pub ends : IsStuck book ⊎ (length book.journal ≡ budget)

-- the worker has ended: its pass is full, or its last turns, as many as there are sites or more,
-- found nothing
abbrev pub HasEnded : (sites : ℕ) → Worked → Type 0
HasEnded sites w = (w.full ≡ true) ⊎ (sites ≤ w.idle)

-- a row for each worker, in their order, and each worker has ended
pub record AreRows (sites : ℕ) (workers : List ℕ) (rows : List Worked) : Type 0 where
  pub numbered : map (λ w. w.number) rows ≡ workers
  pub ended : Each (HasEnded sites) rows

-- the receipts are of the first events of the journal, each once at its place
pub record AreFirst (events : ℕ) (receipts : List Receipt) (journal : List Event) : Type 0 where
  pub as_many : length receipts ≡ events
  pub agrees : Agrees journal receipts
  pub each_place : (k : ℕ) → k < events → times_at k receipts ≡ 1

-- what follows the first events is the schedule of one thread from the solution that they leave, of
-- at most as many events as the budget leaves
pub record GoesOnAlone (p : ProgramTerms) (budget events : ℕ) (journal : List Event) : Type 0 where
  pub first : List Event
  pub rest : List Event
  pub journal_is : journal ≡ first ++ rest
  pub as_many : length first ≡ events
  pub schedule : OnItsSolution (record { program = p; journal = first })
      (λ n. IsSchedule (budget - events) n 0 rest)

-- the report's rows don't agree with the book that the workers made, by a cause that is true, in
-- which no other program than this one is said to be started
pub record HasCause (p : ProgramTerms) (report : Reported) : Type 0 where
  pub cause : Differs
  pub differs : report.differs ≡ Some cause
  pub is_true : IsCause report.workers cause
  pub started : IsOfStarted p cause

-- how a run on free threads was made, whose report has these rows: its first events by the workers,
-- who have a receipt for each, and the others on one thread; or all of it on one thread, where the
-- report says why the book that the workers made was dropped
abbrev pub IsMadeWith : (rows : List Worked) → ProgramTerms → (budget : ℕ) → (journal : List Event)
    → How → Type 0
IsMadeWith rows p budget journal Alone = ⊥
IsMadeWith rows p budget journal Rounds = ⊥
IsMadeWith rows p budget journal (Shared events report) =
    (report ≡ record { workers = rows; differs = None })
    × AreFirst events (all_receipts rows) journal × GoesOnAlone p budget events journal
IsMadeWith rows p budget journal (Lone report) =
    (report.workers ≡ rows) × HasCause p report × ScheduleOf p budget journal
IsMadeWith rows p budget journal (Lossy sent lost repeated arrived) = ⊥

-- it was made so, with a row for each of these workers
pub record IsFree (sites : ℕ) (workers : List ℕ) (p : ProgramTerms) (budget : ℕ)
    (journal : List Event) (how : How) : Type 0 where
  pub rows : List Worked
  pub are_rows : AreRows sites workers rows
  pub made : IsMadeWith rows p budget journal how

-- so many numbers in order, from the given one on
abbrev pub count_from : ℕ → (count : ℕ) → List ℕ
count_from n zero = []
count_from n (suc count) = n ∷ count_from (n + 1) count

-- the workers are numbered from 1
abbrev pub first_workers : (count : ℕ) → List ℕ
first_workers count = count_from 1 count
