-- The clauses of the top call. They see a source by the bytes that it has left, and a sink by those
-- that it holds, where these are told; and both by the count of their faults.
use Rattle.std.specs.Prelude.{◌≡◌, ◌⊎◌, ℕ, ◌≤◌, List, [], length, Bool, true}
use Rattle.std.specs.Prelude.{Option, Some, None, is_some, IfSome}
use Rattle.std.specs.Prelude.{if◌then◌else◌, codes, ◌==◌, ◌||◌}
use Rattle.std.specs.Io.KnownBytes.{Appends, IsAtEnd}
use Rattle.join_base.specs.Bytes.{TakesCount, TakesAtMost, GainsPrefix}
use Rattle.join_base.specs.Counts.{Rose}
use Rattle.join_base.specs.declared.fault.Kind.{Kind}
use Rattle.chem_model.specs.declared.event.Event.{Event}
use Rattle.chem_model.specs.declared.numbered.Numbered.{Numbered}
use Rattle.chem_model.specs.ProgramFacts.{ProgramTerms, IsProgram}
use Rattle.chem_model.specs.Reduction.{Quiet}
use Rattle.chem_model.specs.Runs.{IsRun}
use Rattle.chem_model.specs.Numbered.{erase}
use Rattle.chem_model.specs.Apply.{replay, states}
use Rattle.chem_model.specs.Laws.{erase_all}
use Rattle.guard_compile.specs.Written.{code_of}
use Rattle.site_runner.specs.Schedule.{ScheduleOf}
use Rattle.site_runner.specs.Rounds.{RoundsOf}
use Rattle.site_runner.specs.Free.{IsFree, first_workers}
use Rattle.lossy_link.specs.OverBook.{LossyOf}
use Rattle.lossy_link.specs.declared.schedule.LinkCounts.{LinkCounts}
use Rattle.site_runner.specs.declared.outcome.How.{How}
use Rattle.site_runner.specs.declared.outcome.How.TheVariants as how
use Rattle.trace_text.specs.declared.text.Ending.{Ending}
use Rattle.trace_text.specs.declared.text.Ending.TheVariants.{Quiescent, Stopped}
use Rattle.join_words.specs.declared.answer.Asked.{Asked}
use Rattle.join_words.specs.declared.answer.By.{By}
use Rattle.join_words.specs.declared.answer.By.TheVariants.{Alone, Rounds, Run, Lossy}
use Rattle.log_judge.specs.declared.ask.Ask.{Ask}
use Rattle.log_judge.specs.Judged.{has_verdict, IsRefusedLog, IsNoLog, WritesVerdict}
use Rattle.sort_judge.specs.Command.{was_judged, IsRefusedSource}
use Rattle.sort_judge.specs.Command as judge
use Rattle.join_top.specs.declared.run.Kept.{Kept}
use Rattle.join_top.specs.declared.top.Ended.{Ended}
use Rattle.join_top.specs.Task.{Words, task, ring_asked, text_run, ReadOrRing}
use Rattle.text_program.specs.Streams.{OnTold, Gains, IsWritten, line_of}
use Rattle.text_program.specs.Text.{IsRefusal, IsProgramOfText, refusal_line}
use Rattle.join_top.specs.Printed.{IsWhole}

-- a status comes exactly where a fact holds, but for want of memory, which has the status 6
pub record ComesExactly (status code : ℕ) (fact : Type 0) : Type 0 where
  pub only : status ≡ code → fact
  pub always : fact → (status ≡ code) ⊎ (status ≡ 6)

-- the statuses at which there was a run: its text was written, or a write failed
abbrev pub has_run : ℕ → Bool
has_run status = (status == 0) || (status == 4) || (status == 5)

-- ---- what is read

-- the source was read to its end, and had at most 1,048,576 bytes
abbrev pub IsReadToEnd : Option (List ℕ) → Option (List ℕ) → Type 0
IsReadToEnd old new = TakesAtMost old new 1048576 × IsAtEnd new

-- the source was read to its end, or until it gave one byte more than the limit
abbrev pub IsReadOrTooLong : Option (List ℕ) → Option (List ℕ) → Type 0
IsReadOrTooLong old new = IsReadToEnd old new ⊎ TakesCount old new 1048577

-- how far a source is read, by the status
pub record IsReadAt (S : Type 0) (status : ℕ) (left : S → Option (List ℕ))
    (old new : S) : Type 0 where
  pub usage : status ≡ 2 → new ≡ old
  pub run : has_run status ≡ true → IsReadToEnd (left old) (left new)
  pub refused : status ≡ 1 → IsReadOrTooLong (left old) (left new)
  pub cut_short : (status ≡ 3) ⊎ (status ≡ 6) → TakesAtMost (left old) (left new) 1048576

-- the source is read so, and where the words ask for a ring it is unread
abbrev pub Reads : {S : Type 0} → Words → (status : ℕ)
    → (left : S → Option (List ℕ)) → (old new : S) → Type 0
Reads {S} words status left old new =
    ReadOrRing (ring_asked words) (IsReadAt S status left old new) (new ≡ old)

-- ---- what is written on the sink of errors

-- the text has this refusal, where it is told, and its line is gained
pub record IsRefused (told : Option (List ℕ)) (gains : List ℕ → Type 0) : Type 0 where
  pub kind : Kind
  pub place : ℕ
  pub refusal : OnTold told (λ text. IsRefusal text kind place)
  pub line : gains (refusal_line kind place)

-- at 1 the text that was to be run is refused, and the sink of errors gained the refusal's line
abbrev pub Refuses : {E : Type 0} → Words → (told : Option (List ℕ)) → Ended
    → (held : E → Option (List ℕ)) → (faults : E → ℕ) → (old new : E) → Type 0
Refuses words told ended held faults old new =
    ended.status ≡ 1 → IsRefused (text_run words told) (Gains held faults old new)

-- the sink of errors gained the line of the status; at 0 and at 5 it is as it was
pub record IsLineAt (E : Type 0) (status : ℕ) (held : E → Option (List ℕ)) (faults : E → ℕ)
    (old new : E) : Type 0 where
  pub line : (status ≡ 1) ⊎ Gains held faults old new (line_of status)
  pub untouched : (status ≡ 0) ⊎ (status ≡ 5) → new ≡ old

abbrev pub GainsLine : {E : Type 0} → (status : ℕ)
    → (held : E → Option (List ℕ)) → (faults : E → ℕ) → (old new : E) → Type 0
GainsLine {E} status held faults old new = IsLineAt E status held faults old new

-- ---- the run

-- the journal replays from the program to a solution, and the solutions that the replay passes
-- stand for a run of the machine; it has at most so many events
pub record IsRunOf (budget : ℕ) (p : ProgramTerms) (journal : List Event)
    (n : Numbered) : Type 0 where
  pub replays : replay p journal ≡ Some n
  pub run : IsRun p (erase_all (states p journal))
  pub within : length journal ≤ budget

-- how the run ended: the machine is quiet on the solution, or it isn't and the budget is spent
abbrev pub EndsAs : ℕ → List Event → Numbered → Ending → Type 0
EndsAs budget journal n Quiescent = Quiet n.version n.seen (erase n)
EndsAs budget journal n Stopped =
    (Quiet n.version n.seen (erase n) → ⊥) × (length journal ≡ budget)

-- the run that the words ask for, of the program of the text that is run
pub record IsRunAsked (words : Words) (told : Option (List ℕ)) (kept : Kept) : Type 0 where
  pub asked : Asked
  pub solution : Numbered
  pub ending : Ending
  pub is_asked : task words ≡ Some asked
  pub is_program : OnTold (text_run words told) (λ text. IsProgramOfText text kept.program)
  pub is_run : IsRunOf asked.budget kept.program kept.journal solution
  pub ends : EndsAs asked.budget kept.journal solution ending

-- a run is kept exactly where there was one, and it is the one that was asked for
pub record Keeps (words : Words) (told : Option (List ℕ)) (ended : Ended) : Type 0 where
  pub exactly : is_some ended.kept ≡ has_run ended.status
  pub run : IfSome ended.kept (IsRunAsked words told)

-- ---- how it is made

-- each command says of itself how it was made; on one thread and in rounds it has a schedule, which
-- the journal is and in which no number of workers occurs; on free threads the workers have a
-- receipt for each event that they made; over links the journal is that of the run without them, in
-- which no loss occurs, and the counts are those of the run over links
abbrev pub IsMadeBy : By → (workers budget loss : ℕ) → ProgramTerms → (journal : List Event) → How
    → Type 0
IsMadeBy Alone workers budget loss p journal made =
    ScheduleOf p budget journal × (made ≡ how.Alone)
IsMadeBy Rounds workers budget loss p journal made =
    RoundsOf p (code_of p) budget journal × (made ≡ how.Rounds)
IsMadeBy Run workers budget loss p journal made =
    IsFree (length p.sites) (first_workers workers) p budget journal made
IsMadeBy Lossy workers budget loss p journal made =
    (counts : LinkCounts) × LossyOf p (code_of p) budget loss journal counts
    × (made ≡ how.Lossy counts.sent counts.lost counts.repeated counts.arrived)

-- such a command makes no two different runs of a program for one budget, however many workers
-- there are and whatever is lost
abbrev pub MakesOneRun : By → Type 0
MakesOneRun by =
    (p : ProgramTerms) → IsProgram p → (workers others budget loss other_loss : ℕ)
    → (journal other : List Event) (how told : How)
    → IsMadeBy by workers budget loss p journal how
    → IsMadeBy by others budget other_loss p other told → journal ≡ other

-- of two runs over links of one program, for one budget and one loss, the same counts are told
abbrev pub TellsOneCount : Type 0
TellsOneCount =
    (p : ProgramTerms) → IsProgram p → (workers others budget loss : ℕ)
    → (journal other : List Event) (how told : How)
    → IsMadeBy Lossy workers budget loss p journal how
    → IsMadeBy Lossy others budget loss p other told → how ≡ told

-- the run that is kept is made by the command that the words ask for
pub record IsMadeAsAsked (words : Words) (kept : Kept) : Type 0 where
  pub asked : Asked
  pub is_asked : task words ≡ Some asked
  pub made :
      IsMadeBy asked.by asked.workers asked.budget asked.loss kept.program kept.journal kept.how

-- ---- what is written of it

-- the statuses that go with an ending: 0 with a quiet one, 5 with a stopped one, 4 with either
abbrev pub GoesWith : ℕ → Ending → Type 0
GoesWith status Quiescent = (status ≡ 0) ⊎ (status ≡ 4)
GoesWith status Stopped = (status ≡ 5) ⊎ (status ≡ 4)

-- the whole text of the run that is kept, where it ended by the status
pub record IsTextOf (words : Words) (told : Option (List ℕ)) (status : ℕ) (kept : Kept)
    (text : List ℕ) : Type 0 where
  pub asked : Asked
  pub source : List ℕ
  pub solution : Numbered
  pub ending : Ending
  pub is_asked : task words ≡ Some asked
  pub is_source : OnTold (text_run words told) (λ t. t ≡ source)
  pub is_program : IsProgramOfText source kept.program
  pub replays : replay kept.program kept.journal ≡ Some solution
  pub ends : EndsAs asked.budget kept.journal solution ending
  pub status_is : GoesWith status ending
  pub whole : IsWhole asked source kept.program kept.journal solution ending text

-- where a run is kept, the sink gained its whole text, or at 4 a prefix of it
abbrev pub WritesWhole : {K : Type 0} → Words → (told : Option (List ℕ)) → Ended
    → (held : K → Option (List ℕ)) → (old new : K) → Type 0
WritesWhole words told ended held old new = IfSome ended.kept (λ kept.
    (text : List ℕ) × IsTextOf words told ended.status kept text
    × IsWritten ended.status text (held old) (held new))

-- ---- what is said of a log

-- at 1 the bytes are those of a log whose source is refused, and the refusal's line is gained
abbrev pub RefusesLog : (status : ℕ) → (told : Option (List ℕ)) → (gains : List ℕ → Type 0) → Type 0
RefusesLog status told gains = status ≡ 1 → IsRefusedLog told gains

-- at 8 the bytes were read to their end and are no log, or they are too many, and a line that says
-- which is gained
abbrev pub RefusesBytes : (status : ℕ) → (old new : Option (List ℕ)) → (gains : List ℕ → Type 0)
    → Type 0
RefusesBytes status old new gains = status ≡ 8 → IsNoLog old new gains

-- at 0 and 7 the text that tells the verdict on the log was written whole, and at 4 a prefix of it
abbrev pub TellsVerdict : Ask → (status : ℕ) → (told was now : Option (List ℕ)) → Type 0
TellsVerdict ask status told was now =
    has_verdict status ≡ true → WritesVerdict ask told status was now

-- the sink of errors gained the line of the status; at 0 and at 7 it is as it was
pub record IsLogLineAt (E : Type 0) (status : ℕ) (held : E → Option (List ℕ)) (faults : E → ℕ)
    (old new : E) : Type 0 where
  pub line : (status ≡ 1) ⊎ ((status ≡ 8) ⊎ Gains held faults old new (line_of status))
  pub untouched : (status ≡ 0) ⊎ (status ≡ 7) → new ≡ old

abbrev pub GainsLogLine : {E : Type 0} → (status : ℕ)
    → (held : E → Option (List ℕ)) → (faults : E → ℕ) → (old new : E) → Type 0
GainsLogLine {E} status held faults old new = IsLogLineAt E status held faults old new

-- ---- what is said of a source by its sorts

-- at 1 the source is refused, and the refusal's line is gained
abbrev pub RefusesSource : (status : ℕ) → (told : Option (List ℕ)) → (gains : List ℕ → Type 0)
    → Type 0
RefusesSource status told gains = status ≡ 1 → IsRefusedSource told gains

-- At 0 and 7 the text that tells the verdict on the source was written whole, and at 4 a prefix of
-- it. At 0 the sort lines declare sorts by which there is no fault, and so no atom of any replay of
-- its program is wrong; at 7 the first fault is told, of the sort lines or else of the words.
abbrev pub TellsSorts : (status : ℕ) → (told was now : Option (List ℕ)) → Type 0
TellsSorts status told was now =
    was_judged status ≡ true → judge.WritesVerdict told status was now

-- the sink of errors gained the line of the status; at 0 and at 7 it is as it was
pub record IsSortLineAt (E : Type 0) (status : ℕ) (held : E → Option (List ℕ)) (faults : E → ℕ)
    (old new : E) : Type 0 where
  pub line : (status ≡ 1) ⊎ Gains held faults old new (line_of status)
  pub untouched : (status ≡ 0) ⊎ (status ≡ 7) → new ≡ old

abbrev pub GainsSortLine : {E : Type 0} → (status : ℕ)
    → (held : E → Option (List ℕ)) → (faults : E → ℕ) → (old new : E) → Type 0
GainsSortLine {E} status held faults old new = IsSortLineAt E status held faults old new
