-- The two texts of a book that the world sees: its trace, and its log.
use Rattle.std.specs.Prelude.{◌≡◌, ℕ, List}
use Rattle.trace_history.specs.Kept.{BookKept}
use Rattle.trace_history.specs.Book.{OnItsSolution}
use Rattle.trace_text.specs.declared.text.Ending.{Ending}
use Rattle.trace_text.specs.TraceText.{trace_text}
use Rattle.trace_text.specs.LogText.{Spells}

-- the text of a book's trace, where the run ends so
abbrev pub IsTraceOf : BookKept → Ending → List ℕ → Type 0
IsTraceOf b ending text = OnItsSolution b (λ n. text ≡ trace_text b.program n.named n.trace ending)

-- the text spells the log of a book: the source, the budget, the journal, and the text of its trace
abbrev pub IsLogOf : List ℕ → ℕ → BookKept → Ending → List ℕ → Type 0
IsLogOf source budget b ending text = OnItsSolution b (λ n. Spells (record {
  source = source;
  budget = budget;
  events = b.journal;
  trace = trace_text b.program n.named n.trace ending;
}) text)
