-- What reading a log promises.
use Rattle.std.specs.Prelude.{◌≡◌, ℕ, List, Result, Err, ◌⊎◌}
use Rattle.trace_text.specs.declared.fault.LogEnd.{LogEnd}
use Rattle.trace_text.specs.declared.fault.LogEnd.TheVariants as end
use Rattle.trace_text.specs.declared.read.Log.{Log}
use Rattle.trace_text.specs.LogText.{LogParts}
use Rattle.trace_text.specs.LogFields.{WrongAt}

-- what a log says
abbrev pub parts : Log → LogParts
parts log =
    record { source = log.source; budget = log.budget; events = log.events; trace = log.trace }

-- what the end says of the bytes
abbrev pub NamesWrong : LogEnd → List ℕ → Type 0
NamesWrong (end.Bad place) bytes = WrongAt bytes place
NamesWrong end.Memory bytes = Unit {0}

-- the result is this answer, or want of memory
abbrev pub IsOrMemory : Result Log LogEnd → Result Log LogEnd → Type 0
IsOrMemory answer result = (result ≡ answer) ⊎ (result ≡ Err end.Memory)
