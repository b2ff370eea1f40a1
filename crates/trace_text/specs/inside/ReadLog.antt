-- The words and kinds of a log as the fields that begin with them number them, and a log that is
-- read part by part.
use Rattle.std.specs.Prelude.{◌≡◌, ℕ, ◌≤◌, ◌-◌, List, [], length, Result, Ok, Err}
use Rattle.chem_model.specs.declared.event.Event.{Event}
use Rattle.trace_text.specs.declared.fault.Fault.{Fault}
use Rattle.trace_text.specs.LogText.{LogParts}
use Rattle.trace_text.specs.Fields.{Format}
use Rattle.trace_text.specs.LogFields.{lines, last_part, log_fields}
use Rattle.trace_text.specs.inside.Reading.{read, FailsAs}
use Rattle.trace_text.specs.declared.read.Word.{Word}
use Rattle.trace_text.specs.declared.read.Word.TheVariants as word
use Rattle.trace_text.specs.declared.read.Kind.{Kind}
use Rattle.trace_text.specs.declared.read.Kind.TheVariants as kind

-- which of the words of events it is
abbrev pub index : Word → ℕ
index word.React = 0
index word.Move = 1
index word.Halt = 2
index word.Detect = 3

-- which of the beginnings of logs it is
abbrev pub kind_index : Kind → ℕ
kind_index kind.First = 0
kind_index kind.Second = 1

-- Of the lines that follow the events in front, so many were read: whatever follows all of them,
-- reading goes on behind those read, or ends within them.
abbrev pub ReadsLines : {X : Type 0} → (X → List ℕ) → (front now : List Event) → (count : ℕ)
    → (bytes : List ℕ) → Result X Fault → Type 0
ReadsLines left front now count bytes (Ok x) =
    (n total : ℕ) (next : List Event → Format LogParts) → length bytes ≤ n → count ≤ total
    → read (lines n front total next) bytes ≡ read (lines n now (total - count) next) (left x)
ReadsLines left front now count bytes (Err e) =
    (n total : ℕ) (next : List Event → Format LogParts) → length bytes ≤ n → count ≤ total
    → FailsAs e (read (lines n front total next) bytes)

-- What stands before the lines of events was read: reading goes on with these.
abbrev pub ReadsHead : {X : Type 0} → (source : X → List ℕ) → (budget count : X → ℕ)
    → (left : X → List ℕ) → (bytes : List ℕ) → Result X Fault → Type 0
ReadsHead source budget count left bytes (Ok x) =
    (n : ℕ) → read (log_fields n) bytes
    ≡ read (lines n [] (count x) (last_part (source x) (budget x))) (left x)
ReadsHead source budget count left bytes (Err e) = (n : ℕ) → FailsAs e (read (log_fields n) bytes)

-- What stands behind the lines of events was read: the trace, and no byte more.
abbrev pub ReadsTrace : {X : Type 0} → (X → List ℕ) → (bytes : List ℕ) → Result X Fault → Type 0
ReadsTrace trace bytes (Ok x) =
    (source : List ℕ) (budget : ℕ) (events : List Event)
    → read (last_part source budget events) bytes
    ≡ Ok (record { source = source; budget = budget; events = events; trace = trace x })
ReadsTrace trace bytes (Err e) =
    (source : List ℕ) (budget : ℕ) (events : List Event)
    → FailsAs e (read (last_part source budget events) bytes)
