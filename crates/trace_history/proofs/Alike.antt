-- Two solutions that differ in the order of messages alone.
use Rattle.std.specs.Prelude.{◌≡◌, List, Option, Some, None}
use Rattle.chem_model.specs.declared.numbered.NumberedAtom.{NumberedAtom}
use Rattle.chem_model.specs.declared.numbered.Numbered.{Numbered}
use Rattle.book_store.specs.Alike.{AreAlike}

-- a solution in which each number finds the same, and which is this one in all else
abbrev pub IsAlike : Numbered → Numbered → Type 0
IsAlike n m = (ys : List NumberedAtom) × (m ≡ record n { atoms = ys }) × AreAlike n.atoms ys

abbrev pub AreAlikeIf : Option Numbered → Option Numbered → Type 0
AreAlikeIf None None = Unit {0}
AreAlikeIf None (Some m) = ⊥
AreAlikeIf (Some n) None = ⊥
AreAlikeIf (Some n) (Some m) = IsAlike n m
