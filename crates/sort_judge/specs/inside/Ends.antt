-- What the parts of the command leave.
use Rattle.std.specs.Prelude.{◌≡◌, ◌⊎◌, ℕ, List, Option, Result, Ok, Err}
use Rattle.std.specs.Io.KnownBytes.{Appends}
use Rattle.join_base.specs.Bytes.{TakesAtMost, GainsPrefix}
use Rattle.join_base.specs.declared.fault.Front.{Front}
use Rattle.join_base.specs.declared.fault.Front.TheVariants as front
use Rattle.join_base.specs.declared.fault.Kind.{Kind}
use Rattle.join_base.specs.declared.fault.Kind.TheVariants.{Lex1}
use Rattle.join_base.specs.declared.fault.ReadEnd.{ReadEnd}
use Rattle.join_base.specs.declared.fault.ReadEnd.TheVariants as read
use Rattle.text_program.specs.Streams.{OnTold, line_of}
use Rattle.text_program.specs.Text.{IsRefusal, refusal_line}
use Rattle.sort_judge.specs.declared.told.Told.{Told}
use Rattle.sort_judge.specs.Command.{IsTold, IsReadWhole, IsReadOrTooLong}

-- the text was written whole, or a write failed
abbrev pub Tells : (text : List ℕ) → (meant : ℕ) → (was now : Option (List ℕ))
    → (write_fault : Type 0) → (gains : List ℕ → Type 0) → (silent : Type 0) → (status : ℕ) → Type 0
Tells text meant was now write_fault gains silent status =
    ((status ≡ meant) × Appends was now text × silent)
    ⊎ ((status ≡ 4) × GainsPrefix was now text × write_fault × gains (line_of 4))

-- a line is gained with its status, or memory ran out
abbrev pub Refuses : (meant : ℕ) → (line : List ℕ) → (gains : List ℕ → Type 0) → (status : ℕ)
    → Type 0
Refuses meant line gains status =
    ((status ≡ meant) × gains line) ⊎ ((status ≡ 6) × gains (line_of 6))

-- what is told of a text is written, or the line that tells why there is nothing to tell
abbrev pub TellsText : Result Told Front → (was now : Option (List ℕ)) → (write_fault : Type 0)
    → (untouched : Type 0) → (gains : List ℕ → Type 0) → (silent : Type 0) → (status : ℕ) → Type 0
TellsText (Ok told) was now write_fault untouched gains silent status =
    Tells told.text told.status was now write_fault gains silent status
TellsText (Err (front.Refused kind place)) was now write_fault untouched gains silent status =
    untouched × Refuses 1 (refusal_line kind place) gains status
TellsText (Err front.Memory) was now write_fault untouched gains silent status =
    untouched × (status ≡ 6) × gains (line_of 6)

-- the line that tells why there is no text is gained
abbrev pub TellsEnd : ReadEnd → (gains : List ℕ → Type 0) → (status : ℕ) → Type 0
TellsEnd read.TooLong gains status = (status ≡ 1) × gains (refusal_line Lex1 1048576)
TellsEnd read.ReadFault gains status = (status ≡ 3) × gains (line_of 3)
TellsEnd read.Memory gains status = (status ≡ 6) × gains (line_of 6)

-- ---- how the command ends

-- By what the source told at the beginning and tells at the end, and whether it failed; by what the
-- sink held and holds, whether it failed, and whether it is as it was; by what the sink of errors
-- gained, and whether it is as it was; and by the status.
pub data IsEnd (old new : Option (List ℕ)) (read_fault : Type 0) (was now : Option (List ℕ))
    (write_fault untouched : Type 0) (gains : List ℕ → Type 0) (silent : Type 0)
    (status : ℕ) : Type 0 where
  -- the text was judged, and all that is told of it was written
  judged : (text told : List ℕ) → IsReadWhole old new → OnTold old (λ t. t ≡ text)
      → IsTold text told status → Appends was now told → silent
      → IsEnd old new read_fault was now write_fault untouched gains silent status
  -- it was judged, and a write failed
  cut_off : (text told : List ℕ) (meant : ℕ) → IsReadWhole old new → OnTold old (λ t. t ≡ text)
      → IsTold text told meant → GainsPrefix was now told → write_fault → gains (line_of 4)
      → status ≡ 4 → IsEnd old new read_fault was now write_fault untouched gains silent status
  -- it is refused
  refused : (kind : Kind) (place : ℕ) → IsReadOrTooLong old new
      → OnTold old (λ text. IsRefusal text kind place) → untouched
      → gains (refusal_line kind place) → status ≡ 1
      → IsEnd old new read_fault was now write_fault untouched gains silent status
  -- a read failed
  unread : TakesAtMost old new 1048576 → read_fault → untouched → gains (line_of 3) → status ≡ 3
      → IsEnd old new read_fault was now write_fault untouched gains silent status
  -- memory ran out
  no_memory : TakesAtMost old new 1048576 → untouched → gains (line_of 6) → status ≡ 6
      → IsEnd old new read_fault was now write_fault untouched gains silent status
