-- What it is to be dead, by what it is to be within a location.
use Rattle.std.specs.Prelude.{◌≡◌, true, ◌↔◌}
use Rattle.chem_model.specs.declared.name.Loc.{Loc}
use Rattle.chem_model.specs.Solution.{Places, is_marked, within, dead}

abbrev pub DeadIsWithin : Type 0
DeadIsWithin =
    (pl : Places) (l : Loc)
    → (dead pl l ≡ true) ↔ ((b : Loc) × (within pl l b ≡ true) × (is_marked (pl b) ≡ true))
