use Rattle.std.proofs.Common.{◌≡◌, min, take}
use Rattle.trace_text.specs.inside.Reading.{value_of}
use Rattle.trace_text.proofs.fields.value_of.Given as goal

abbrev pub invariant-loop-digit : goal.invariant-loop-digit
invariant-loop-digit l = l.value ≡ min (value_of (take l.digit-index l.digits)) 18446744073709551616
