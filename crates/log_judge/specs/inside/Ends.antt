-- What the parts of a command on a log leave.
use Rattle.std.specs.Prelude.{◌≡◌, ◌⊎◌, ℕ, List, Option, codes, Result, Ok, Err}
use Rattle.std.specs.Io.KnownBytes.{Appends}
use Rattle.join_base.specs.Bytes.{TakesCount, TakesAtMost, GainsPrefix}
use Rattle.join_base.specs.Counts.{Rose}
use Rattle.join_base.specs.declared.fault.Front.{Front}
use Rattle.join_base.specs.declared.fault.Front.TheVariants as front
use Rattle.join_base.specs.declared.fault.ReadEnd.TheVariants as read
use Rattle.trace_text.specs.declared.fault.LogEnd.TheVariants as bytes
use Rattle.trace_text.specs.LogFields.{WrongAt}
use Rattle.trace_text.specs.LogText.{LogParts, Spells}
use Rattle.text_program.specs.Streams.{OnTold, line_of}
use Rattle.text_program.specs.Text.{IsRefusal, refusal_line}
use Rattle.join_base.specs.declared.fault.Kind.{Kind}
use Rattle.log_judge.specs.declared.ask.Ask.{Ask}
use Rattle.log_judge.specs.declared.told.Told.{Told}
use Rattle.log_judge.specs.declared.log.LogStop.{LogStop}
use Rattle.log_judge.specs.declared.log.LogStop.TheVariants as stop
use Rattle.log_judge.specs.Judged.{IsReadWhole, IsJudgedAs, wrong_line}

-- there is no log, for this reason
abbrev pub IsStop : {S : Type 0} → (left : S → Option (List ℕ)) → (faults : S → ℕ)
    → (old new : S) → LogStop → Type 0
IsStop left faults old new (stop.Source read.TooLong) = TakesCount (left old) (left new) 134217729
IsStop left faults old new (stop.Source read.ReadFault) =
    TakesAtMost (left old) (left new) 134217728 × Rose (faults old) (faults new)
IsStop left faults old new (stop.Source read.Memory) =
    TakesAtMost (left old) (left new) 134217728
IsStop left faults old new (stop.Log (bytes.Bad place)) =
    IsReadWhole (left old) (left new) × OnTold (left old) (λ text. WrongAt text place)
IsStop left faults old new (stop.Log bytes.Memory) = IsReadWhole (left old) (left new)

-- the bytes are no log, or memory ran out as they were read
abbrev pub IsNoLogIn : List ℕ → LogStop → Type 0
IsNoLogIn text (stop.Source end) = ⊥
IsNoLogIn text (stop.Log (bytes.Bad place)) = WrongAt text place
IsNoLogIn text (stop.Log bytes.Memory) = Unit {0}

-- the text was written whole, or a write failed
abbrev pub Tells : (text : List ℕ) → (meant : ℕ) → (was now : Option (List ℕ))
    → (write_fault : Type 0) → (gains : List ℕ → Type 0) → (silent : Type 0) → (status : ℕ) → Type 0
Tells text meant was now write_fault gains silent status =
    ((status ≡ meant) × Appends was now text × silent)
    ⊎ ((status ≡ 4) × GainsPrefix was now text × write_fault × gains (line_of 4))

-- a line is gained with its status, or memory ran out
abbrev pub Refuses : (meant : ℕ) → (line : List ℕ) → (gains : List ℕ → Type 0) → (status : ℕ)
    → Type 0
Refuses meant line gains status =
    ((status ≡ meant) × gains line) ⊎ ((status ≡ 6) × gains (line_of 6))

-- what is told of a log is written, or the line that tells why there is nothing to tell
abbrev pub TellsLog : Result Told Front → (was now : Option (List ℕ)) → (write_fault : Type 0)
    → (untouched : Type 0) → (gains : List ℕ → Type 0) → (silent : Type 0) → (status : ℕ) → Type 0
TellsLog (Ok told) was now write_fault untouched gains silent status =
    Tells told.text told.status was now write_fault gains silent status
TellsLog (Err (front.Refused kind place)) was now write_fault untouched gains silent status =
    untouched × Refuses 1 (refusal_line kind place) gains status
TellsLog (Err front.Memory) was now write_fault untouched gains silent status =
    untouched × (status ≡ 6) × gains (line_of 6)

-- the line that tells why there is no log is gained
abbrev pub TellsStop : LogStop → (gains : List ℕ → Type 0) → (status : ℕ) → Type 0
TellsStop (stop.Source read.TooLong) gains status =
    (status ≡ 8) × gains (codes "log 2 at 134217728\n")
TellsStop (stop.Source read.ReadFault) gains status = (status ≡ 3) × gains (line_of 3)
TellsStop (stop.Source read.Memory) gains status = (status ≡ 6) × gains (line_of 6)
TellsStop (stop.Log (bytes.Bad place)) gains status = Refuses 8 (wrong_line place) gains status
TellsStop (stop.Log bytes.Memory) gains status = (status ≡ 6) × gains (line_of 6)

-- ---- how a command on a log ends

-- By what the source told at the beginning and tells at the end, and whether it failed; by what the
-- sink held and holds, whether it failed, and whether it is as it was; by what the sink of errors
-- gained, and whether it is as it was; and by the status.
pub data IsEnd (ask : Ask) (old new : Option (List ℕ)) (read_fault : Type 0)
    (was now : Option (List ℕ)) (write_fault untouched : Type 0) (gains : List ℕ → Type 0)
    (silent : Type 0) (status : ℕ) : Type 0 where
  -- the log was judged, and all that is told of it was written
  judged : (log : LogParts) (text : List ℕ) → IsReadWhole old new → OnTold old (Spells log)
      → IsJudgedAs ask log text status → Appends was now text → silent
      → IsEnd ask old new read_fault was now write_fault untouched gains silent status
  -- it was judged, and a write failed
  cut_off : (log : LogParts) (text : List ℕ) (meant : ℕ) → IsReadWhole old new
      → OnTold old (Spells log) → IsJudgedAs ask log text meant → GainsPrefix was now text
      → write_fault → gains (line_of 4) → status ≡ 4
      → IsEnd ask old new read_fault was now write_fault untouched gains silent status
  -- its source is refused
  refused : (log : LogParts) (kind : Kind) (place : ℕ) → IsReadWhole old new
      → OnTold old (Spells log) → IsRefusal log.source kind place → untouched
      → gains (refusal_line kind place) → status ≡ 1
      → IsEnd ask old new read_fault was now write_fault untouched gains silent status
  -- the bytes are no log: a field of theirs is wrong
  wrong : (place : ℕ) → IsReadWhole old new → OnTold old (λ bytes. WrongAt bytes place)
      → untouched → gains (wrong_line place) → status ≡ 8
      → IsEnd ask old new read_fault was now write_fault untouched gains silent status
  -- they are too many
  too_long : TakesCount old new 134217729 → untouched → gains (codes "log 2 at 134217728\n")
      → status ≡ 8
      → IsEnd ask old new read_fault was now write_fault untouched gains silent status
  -- a read failed
  unread : TakesAtMost old new 134217728 → read_fault → untouched → gains (line_of 3) → status ≡ 3
      → IsEnd ask old new read_fault was now write_fault untouched gains silent status
  -- memory ran out
  no_memory : TakesAtMost old new 134217728 → untouched → gains (line_of 6) → status ≡ 6
      → IsEnd ask old new read_fault was now write_fault untouched gains silent status
