-- What the end of a run on threads answers.
use Rattle.std.specs.Prelude.{◌≡◌, ℕ, ◌<◌, ◌≤◌, List, None, is_some, true, length, IfSome}
use Rattle.chem_model.specs.Each.{Each}
use Rattle.chem_model.specs.ProgramFacts.{ProgramTerms}
use Rattle.trace_history.specs.Kept.{BookKept}
use Rattle.shared_net.specs.declared.report.Worked.{Worked}
use Rattle.shared_net.specs.declared.closing.Closed.{Closed}
use Rattle.shared_net.specs.declared.closing.Closed.TheVariants.{Agreed, Differs}
use Rattle.shared_net.specs.Passes.{PassKept}
use Rattle.shared_net.specs.Agrees.{all_receipts, times_at, Agrees}
use Rattle.shared_net.specs.Causes.{IsOfStarted}

-- the passes have this budget
abbrev pub HaveBudget : ℕ → List PassKept → Type 0
HaveBudget budget passes = Each (λ p. p.budget ≡ budget) passes

-- the book is of the program, the receipts agree with it and are as many as its events, each of its
-- places has one, and it has at most `budget` events
pub record IsAgreed (program : ProgramTerms) (budget : ℕ) (rows : List Worked) (book : BookKept)
    : Type 0 where
  pub same : book.program ≡ program
  pub agrees : Agrees book.journal (all_receipts rows)
  pub as_many : length (all_receipts rows) ≡ length book.journal
  pub each_place : (k : ℕ) → k < length book.journal → times_at k (all_receipts rows) ≡ 1
  pub within : length book.journal ≤ budget

-- the book with which the receipts agree; or a report of why they don't, in which no other program
-- than this one is said to be started
abbrev pub Closes : ProgramTerms → ℕ → List Worked → Closed → Type 0
Closes program budget rows (Agreed book report) =
    IsAgreed program budget rows book × (report ≡ record { workers = rows; differs = None })
Closes program budget rows (Differs report) =
    (report.workers ≡ rows) × (is_some report.differs ≡ true)
    × IfSome report.differs (IsOfStarted program)
