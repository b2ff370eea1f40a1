-- That an event takes at least one message.
use Rattle.std.specs.Prelude.{◌<◌, length}
use Rattle.chem_model.specs.declared.event.Event.{Event}
use Rattle.chem_model.specs.declared.event.Event.TheVariants.{React, Move, Halt, Detect}

-- a reaction takes an atom
abbrev pub TakesSome : Event → Type 0
TakesSome (React r took) = 0 < length took
TakesSome (Move a) = Unit {0}
TakesSome (Halt a) = Unit {0}
TakesSome (Detect a) = Unit {0}
