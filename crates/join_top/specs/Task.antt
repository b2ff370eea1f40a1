-- What the words ask for, and the text that is run.
use Rattle.std.specs.Prelude.{ℕ, List, String, string_bytes, map, Option, Some, None}
use Rattle.std.specs.Prelude.{Bool, true, false}
use Rattle.std.specs.declared.alloc.Global.{Global}
use Rattle.join_words.specs.declared.answer.Asked.{Asked}
use Rattle.join_words.specs.declared.answer.Job.{Job}
use Rattle.join_words.specs.declared.answer.Job.TheVariants as job
use Rattle.log_judge.specs.declared.ask.Ask.{Ask}
use Rattle.log_judge.specs.declared.ask.Ask.TheVariants as ask
use Rattle.join_words.specs.Asks.{asked}
use Rattle.ring_source.specs.Ring.{ring_text}

-- the words of a line
abbrev pub Words : Type 0
Words = List (String Global)

-- what the words ask for; none where they are not of the line's form
abbrev pub task : Words → Option Asked
task words = asked (map string_bytes words)

-- what a job wants of a log; a run and the judge of sorts want nothing of one
abbrev pub ask_of : Job → Option Ask
ask_of job.Run = None
ask_of job.Check = Some ask.Verdict
ask_of job.Explain = Some ask.Causes
ask_of job.Sorts = None

abbrev pub ask_if : Option Asked → Option Ask
ask_if None = None
ask_if (Some a) = ask_of a.job

-- what the words want of a log; none where they want something else, or nothing
abbrev pub log_asked : Words → Option Ask
log_asked words = ask_if (task words)

-- one fact where something is wanted of a log, and another elsewhere
abbrev pub LogOrRun : Option Ask → (Ask → Type 0) → Type 0 → Type 0
LogOrRun None log run = run
LogOrRun (Some ask) log run = log ask

abbrev pub OnLog : Option Ask → (Ask → Type 0) → Type 0
OnLog wanted log = LogOrRun wanted log (Unit {0})

-- whether a job is that of the judge of sorts
abbrev pub is_of_sorts : Job → Bool
is_of_sorts job.Run = false
is_of_sorts job.Check = false
is_of_sorts job.Explain = false
is_of_sorts job.Sorts = true

abbrev pub sorts_if : Option Asked → Bool
sorts_if None = false
sorts_if (Some a) = is_of_sorts a.job

-- whether the words want a source to be judged by the sorts that it declares
abbrev pub sorts_asked : Words → Bool
sorts_asked words = sorts_if (task words)

-- one fact where they do, and another elsewhere
abbrev pub SortsOrRun : Bool → Type 0 → Type 0 → Type 0
SortsOrRun true sorts run = sorts
SortsOrRun false sorts run = run

abbrev pub OnSorts : Bool → Type 0 → Type 0
OnSorts wanted sorts = SortsOrRun wanted sorts (Unit {0})

-- one fact where something is wanted of a log, one where a source is judged by its sorts, and
-- another elsewhere
abbrev pub ByTask : Words → (Ask → Type 0) → Type 0 → Type 0 → Type 0
ByTask words log sorts run =
    LogOrRun (log_asked words) log (SortsOrRun (sorts_asked words) sorts run)

-- the size of the ring that is asked for
abbrev pub ring_of : Option Asked → Option ℕ
ring_of None = None
ring_of (Some a) = a.ring

abbrev pub ring_asked : Words → Option ℕ
ring_asked words = ring_of (task words)

-- the text of the ring of this size, or else what the source tells
abbrev pub text_of : Option ℕ → Option (List ℕ) → Option (List ℕ)
text_of None told = told
text_of (Some size) told = Some (ring_text size)

-- the text that is run, where it is told
abbrev pub text_run : Words → Option (List ℕ) → Option (List ℕ)
text_run words told = text_of (ring_asked words) told

-- one fact where the source is read, and another where a ring is run in place of it
abbrev pub ReadOrRing : Option ℕ → Type 0 → Type 0 → Type 0
ReadOrRing None read ring = read
ReadOrRing (Some size) read ring = ring
