-- What holds of the events of a log.
use Rattle.chem_model.specs.declared.event.Event.{Event}
use Rattle.chem_model.specs.declared.event.Event.TheVariants.{React, Move, Halt, Detect}
use Rattle.chem_model.specs.Each.{Each}
use Rattle.trace_text.specs.LogText.{IsPair, IsAtom}

-- the pairs of an event are within their bounds
abbrev pub IsBounded : Event → Type 0
IsBounded (React r took) = IsPair r.site r.k × Each IsAtom took
IsBounded (Move a) = IsAtom a
IsBounded (Halt a) = IsAtom a
IsBounded (Detect a) = IsAtom a
