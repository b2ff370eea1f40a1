-- What the verdict on a log says of its events and of its trace.
use Rattle.std.specs.Prelude.{◌≡◌, ℕ, List, Some, None, take, slice_get}
use Rattle.chem_model.specs.declared.event.Event.{Event}
use Rattle.chem_model.specs.declared.numbered.Numbered.{Numbered}
use Rattle.chem_model.specs.ProgramFacts.{ProgramTerms}
use Rattle.chem_model.specs.Reduction.{Quiet}
use Rattle.chem_model.specs.Numbered.{erase}
use Rattle.chem_model.specs.Apply.{apply, replay}
use Rattle.trace_text.specs.declared.text.Ending.{Ending}
use Rattle.trace_text.specs.declared.text.Ending.TheVariants.{Quiescent, Stopped}
use Rattle.trace_text.specs.TraceText.{trace_text}
use Rattle.trace_text.specs.LogText.{LogParts}
use Rattle.run_check.specs.declared.answer.Verdict.{Verdict}
use Rattle.run_check.specs.declared.answer.Verdict.TheVariants as verdict

-- the events before this place replay, and the event there isn't possible after them
pub record IsRefused (p : ProgramTerms) (events : List Event) (index : ℕ) : Type 0 where
  pub event : Event
  pub before : Numbered
  pub there : slice_get events index ≡ Some event
  pub leads : replay p (take index events) ≡ Some before
  pub refused : apply before event ≡ None

-- how a run that leads to this solution ends
abbrev pub IsEndingOf : Numbered → Ending → Type 0
IsEndingOf n Quiescent = Quiet n.version n.seen (erase n)
IsEndingOf n Stopped = Quiet n.version n.seen (erase n) → ⊥

-- all events replay, and this is the text of their trace
pub record HasTrace (p : ProgramTerms) (events : List Event) (text : List ℕ) : Type 0 where
  pub solution : Numbered
  pub ending : Ending
  pub leads : replay p events ≡ Some solution
  pub ends : IsEndingOf solution ending
  pub is : text ≡ trace_text p solution.named solution.trace ending

-- two texts are the same before this place, at which they have two bytes, or one of them ends
pub record DiffersAt (one other : List ℕ) (place : ℕ) : Type 0 where
  pub before : take place one ≡ take place other
  pub there : slice_get one place ≡ slice_get other place → ⊥

abbrev pub Judges : ProgramTerms → LogParts → Verdict → Type 0
Judges p log (verdict.Yes book) =
    (book ≡ record { program = p; journal = log.events }) × HasTrace p log.events log.trace
Judges p log (verdict.Event index) = IsRefused p log.events index
Judges p log (verdict.Trace place) =
    (text : List ℕ) × HasTrace p log.events text × DiffersAt log.trace text place

-- no log has two verdicts
abbrev pub HasOneVerdict : Type 0
HasOneVerdict =
    (p : ProgramTerms) (log : LogParts) (v w : Verdict)
    → Judges p log v → Judges p log w → v ≡ w
