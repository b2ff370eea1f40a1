-- What is read before a run, and why there is none.
use Rattle.std.specs.Prelude.{◌≡◌, ◌⊎◌, ℕ, ◌≤◌, List, length, true, false}
use Rattle.std.specs.Prelude.{Option, Some, None, is_some}
use Rattle.join_base.specs.Bytes.{TakesCount}
use Rattle.join_base.specs.Counts.{Rose}
use Rattle.join_base.specs.declared.fault.Front.TheVariants as front
use Rattle.join_base.specs.declared.fault.Kind.TheVariants.{Lex1}
use Rattle.join_base.specs.declared.fault.ReadEnd.{ReadEnd}
use Rattle.join_base.specs.declared.fault.ReadEnd.TheVariants as read
use Rattle.join_words.specs.Asks.{IsWithin}
use Rattle.trace_text.specs.declared.text.Ending.{Ending}
use Rattle.join_top.specs.declared.job.Begun.{Begun}
use Rattle.join_top.specs.declared.job.Stop.{Stop}
use Rattle.join_top.specs.declared.job.Stop.TheVariants as stop
use Rattle.join_top.specs.declared.run.Kept.{Kept}
use Rattle.join_top.specs.declared.top.Wanted.{Wanted}
use Rattle.join_top.specs.declared.top.Wanted.TheVariants as wanted
use Rattle.join_words.specs.declared.answer.Job.{Job}
use Rattle.join_top.specs.Task.{Words, task, ask_of, log_asked, is_of_sorts, sorts_asked}
use Rattle.join_top.specs.Task.{ring_asked, text_run}
use Rattle.text_program.specs.Text.{IsProgramOfText, refusal_line}
use Rattle.text_program.specs.Streams.{OnTold, IsWritten}
use Rattle.join_top.specs.RunJoin.{GoesWith, IsMadeBy}
use Rattle.join_top.specs.inside.Ran.{WhereRead, ReadsAll, ReadsPart, IsEnded}
use Rattle.text_program.specs.inside.Text.{NamesRefusal}

-- ---- what is read

-- the job of the words and of the text that is run
pub record IsJob (S : Type 0) (words : Words) (left : S → Option (List ℕ)) (old new : S)
    (job : Begun) : Type 0 where
  pub is_asked : task words ≡ Some job.asked
  pub ring : ring_asked words ≡ job.asked.ring
  pub within : IsWithin job.asked
  pub all : ReadsAll job.asked.ring left old new
  pub is_text : OnTold (text_run words (left old)) (λ text. text ≡ job.text)
  pub short : WhereRead job.asked.ring (length job.text ≤ 1048576)
  pub is_program : IsProgramOfText job.text job.program

-- the source gives no text
abbrev pub IsReadEnd : {S : Type 0} → (ring : Option ℕ) → (left : S → Option (List ℕ))
    → (faults : S → ℕ) → (old new : S) → ReadEnd → Type 0
IsReadEnd ring left faults old new read.TooLong =
    (ring ≡ None) × TakesCount (left old) (left new) 1048577
IsReadEnd ring left faults old new read.ReadFault =
    ReadsPart ring left old new × Rose (faults old) (faults new)
IsReadEnd ring left faults old new read.Memory = ReadsPart ring left old new

-- there is no job, for this reason
abbrev pub IsStop : {S : Type 0} → Words → (left : S → Option (List ℕ)) → (faults : S → ℕ)
    → (old new : S) → Stop → Type 0
IsStop words left faults old new stop.Form = (task words ≡ None) × (new ≡ old)
IsStop words left faults old new stop.Memory = new ≡ old
IsStop words left faults old new (stop.Source end) =
    (is_some (task words) ≡ true) × IsReadEnd (ring_asked words) left faults old new end
IsStop words left faults old new (stop.Text front) =
    (is_some (task words) ≡ true) × ReadsAll (ring_asked words) left old new
    × OnTold (text_run words (left old)) (λ text. NamesRefusal text front)

-- what the words want of a log or a source, as far as it could be read
abbrev pub IsWanted : Words → Wanted → Type 0
IsWanted words (wanted.Log ask) = Some ask ≡ log_asked words
IsWanted words wanted.Sorts = (None ≡ log_asked words) × (true ≡ sorts_asked words)
IsWanted words wanted.Other = (None ≡ log_asked words) × (false ≡ sorts_asked words)
IsWanted words wanted.NoMemory = Unit {0}

-- what a job wants
abbrev pub IsWantedOf : Job → Wanted → Type 0
IsWantedOf job (wanted.Log ask) = Some ask ≡ ask_of job
IsWantedOf job wanted.Sorts = (None ≡ ask_of job) × (true ≡ is_of_sorts job)
IsWantedOf job wanted.Other = (None ≡ ask_of job) × (false ≡ is_of_sorts job)
IsWantedOf job wanted.NoMemory = ⊥

-- ---- what is told where there is no job

-- the statuses that go with it: memory may run out as a refusal is written
abbrev pub StatusOf : Stop → ℕ → Type 0
StatusOf stop.Form status = status ≡ 2
StatusOf stop.Memory status = status ≡ 6
StatusOf (stop.Source read.TooLong) status = status ≡ 1
StatusOf (stop.Source read.ReadFault) status = status ≡ 3
StatusOf (stop.Source read.Memory) status = status ≡ 6
StatusOf (stop.Text (front.Refused kind place)) status = (status ≡ 1) ⊎ (status ≡ 6)
StatusOf (stop.Text front.Memory) status = status ≡ 6

-- the line of its refusal is gained
abbrev pub GainsRefusal : Stop → (gains : List ℕ → Type 0) → Type 0
GainsRefusal stop.Form gains = Unit {0}
GainsRefusal stop.Memory gains = Unit {0}
GainsRefusal (stop.Source read.TooLong) gains = gains (refusal_line Lex1 1048576)
GainsRefusal (stop.Source read.ReadFault) gains = Unit {0}
GainsRefusal (stop.Source read.Memory) gains = Unit {0}
GainsRefusal (stop.Text (front.Refused kind place)) gains = gains (refusal_line kind place)
GainsRefusal (stop.Text front.Memory) gains = Unit {0}

-- ---- the run of a job

-- the statuses that a job leads to
abbrev pub IsStatusOfJob : ℕ → Type 0
IsStatusOfJob status = (status ≡ 0) ⊎ ((status ≡ 4) ⊎ ((status ≡ 5) ⊎ (status ≡ 6)))

-- the run of the job, and of its text what goes with the status
pub record IsRunOfJob (job : Begun) (status : ℕ) (old new : Option (List ℕ))
    (kept : Kept) : Type 0 where
  pub text : List ℕ
  pub ending : Ending
  pub program : kept.program ≡ job.program
  pub ended : IsEnded job.asked job.text kept text ending
  pub made :
      IsMadeBy job.asked.by job.asked.workers job.asked.budget job.asked.loss
      kept.program kept.journal kept.how
  pub goes : GoesWith status ending
  pub written : IsWritten status text old new
