-- What making an event in place promises.
use Rattle.std.specs.Prelude.{◌≡◌, Option, Some, None, Bool, true, false}
use Rattle.chem_model.specs.declared.event.Event.{Event}
use Rattle.chem_model.specs.declared.event.Event.TheVariants.{React, Move, Halt, Detect}
use Rattle.chem_model.specs.declared.numbered.Numbered.{Numbered}

-- the effect stands in place of the solution exactly where there is one; else nothing changes
abbrev pub Replaces : Option Numbered → Numbered → Bool → Numbered → Type 0
Replaces None old made new = (made ≡ false) × (new ≡ old)
Replaces (Some after) old made new = (made ≡ true) × (new ≡ after)

-- whether making an event takes memory: a halt takes none
abbrev pub takes_memory : Event → Bool
takes_memory (React i took) = true
takes_memory (Move i) = true
takes_memory (Halt i) = false
takes_memory (Detect i) = true
