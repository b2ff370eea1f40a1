-- What is read of a source, and what sinks gain.
use Rattle.std.specs.Prelude.{◌≡◌, ◌⊎◌, ℕ, List, [], Option, Some, None}
use Rattle.std.specs.Prelude.{if◌then◌else◌, codes, ◌==◌}
use Rattle.std.specs.Io.KnownBytes.{Appends}
use Rattle.join_base.specs.Bytes.{GainsPrefix}
use Rattle.join_base.specs.Counts.{Rose}

-- what holds of the bytes, where they are told
abbrev pub OnTold : Option (List ℕ) → (List ℕ → Type 0) → Type 0
OnTold None P = Unit {0}
OnTold (Some text) P = P text

-- a sink gained exactly a text, or a prefix of it where its count of faults rose
abbrev pub Gains : {K : Type 0} → (held : K → Option (List ℕ)) → (faults : K → ℕ)
    → (old new : K) → (text : List ℕ) → Type 0
Gains held faults old new text =
    Appends (held old) (held new) text ⊎
    (GainsPrefix (held old) (held new) text × Rose (faults old) (faults new))

-- the sink gained the text, or at 4 a prefix of it
abbrev pub IsWritten : ℕ → List ℕ → Option (List ℕ) → Option (List ℕ) → Type 0
IsWritten status text old new = ((status ≡ 4) × GainsPrefix old new text) ⊎ Appends old new text

-- the line on the sink of errors that goes with a status; that of a refused text names its refusal
abbrev pub line_of : ℕ → List ℕ
line_of status =
    if status == 2 then codes "usage: join MODE [N] [OPTIONS]\n" else
    (if status == 3 then codes "read fault\n" else
    (if status == 4 then codes "write fault\n" else
    (if status == 6 then codes "out of memory\n" else [])))
