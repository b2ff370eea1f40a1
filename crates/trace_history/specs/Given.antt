-- Which names a run gives.
use Rattle.std.specs.Prelude.{◌≡◌, List, Some, None, Bool, true, false}
use Rattle.chem_model.specs.declared.event.Event.{Event}
use Rattle.chem_model.specs.declared.name.Name.{Name}
use Rattle.chem_model.specs.declared.name.Name.TheVariants as name
use Rattle.chem_model.specs.declared.numbered.Numbered.{Numbered}
use Rattle.chem_model.specs.ProgramFacts.{ProgramTerms}
use Rattle.chem_model.specs.Numbered.{binder_in}
use Rattle.chem_model.specs.Apply.{replay}

-- a location or a channel, as against an observed name, a number and an operation
abbrev pub can_be_made : Name → Bool
can_be_made (name.Seen i) = false
can_be_made (name.Place l) = true
can_be_made (name.Chan s k h) = true
can_be_made (name.Num n) = false
can_be_made (name.Op i) = false

-- in each solution to which a journal replays no other name has a binder: no number, no operation
-- and no observed name
abbrev pub OnlyMadeNamesHaveBinders : Type 0
OnlyMadeNamesHaveBinders =
    (p : ProgramTerms) (journal : List Event) (n : Numbered) → replay p journal ≡ Some n
    → (x : Name) → can_be_made x ≡ false → binder_in n.named x ≡ None
