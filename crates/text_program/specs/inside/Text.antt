-- The refusal that an error names.
use Rattle.std.specs.Prelude.{ℕ, List}
use Rattle.join_base.specs.declared.fault.Front.{Front}
use Rattle.join_base.specs.declared.fault.Front.TheVariants as front
use Rattle.text_program.specs.Text.{IsRefusal}

-- the error names the refusal of the text; want of memory names none
abbrev pub NamesRefusal : List ℕ → Front → Type 0
NamesRefusal text (front.Refused kind place) = IsRefusal text kind place
NamesRefusal text front.Memory = Unit {0}
