-- The whole text of a run.
use Rattle.std.specs.Prelude.{◌≡◌, ℕ, List, ◌++◌, length, Bool, true, false}
use Rattle.std.specs.Prelude.{Option, Some, None, codes, decimal}
use Rattle.chem_model.specs.declared.event.Event.{Event}
use Rattle.chem_model.specs.declared.numbered.Numbered.{Numbered}
use Rattle.chem_model.specs.ProgramFacts.{ProgramTerms}
use Rattle.trace_text.specs.TraceText.{trace_text, ending_text}
use Rattle.trace_text.specs.LogText.{Spells}
use Rattle.trace_text.specs.declared.text.Ending.{Ending}
use Rattle.join_words.specs.declared.answer.Asked.{Asked}

-- what is printed of a ring: how many events and how many observables there were, and how the run
-- ended
abbrev pub counts_text : ℕ → ℕ → Ending → List ℕ
counts_text events observables ending =
    codes "events " ++ decimal events ++ codes "\nobservables " ++ decimal observables
    ++ codes "\n" ++ ending_text ending

-- the text of the trace, or in its place the log of the source, the budget, the journal and the
-- text of the trace
abbrev pub IsTraceOrLog : (log : Bool) → (source : List ℕ) → (budget : ℕ) → (journal : List Event)
    → (trace text : List ℕ) → Type 0
IsTraceOrLog false source budget journal trace text = text ≡ trace
IsTraceOrLog true source budget journal trace text =
    Spells (record { source = source; budget = budget; events = journal; trace = trace }) text

-- the whole text of a run of this source that leads to this solution and ends so: of a ring its
-- counts, and else its trace or its log
abbrev pub IsWholeOf : Option ℕ → Asked → (source : List ℕ) → ProgramTerms → List Event → Numbered
    → Ending → (text : List ℕ) → Type 0
IsWholeOf None a source p journal n ending text =
    IsTraceOrLog a.log source a.budget journal (trace_text p n.named n.trace ending) text
IsWholeOf (Some size) a source p journal n ending text =
    text ≡ counts_text (length journal) (length n.trace) ending

abbrev pub IsWhole : Asked → (source : List ℕ) → ProgramTerms → List Event → Numbered → Ending
    → (text : List ℕ) → Type 0
IsWhole a source p journal n ending text = IsWholeOf a.ring a source p journal n ending text
