-- What functions say of their parts: what was added to what was made, and a found location's
-- standing.
use Rattle.std.specs.Prelude.{◌≡◌, ◌++◌, Option, Some, None}
use Rattle.chem_model.specs.Solution.{Standing}
use Rattle.chem_model.specs.Numbered.{Placed, Made}

-- the new is the old, and then what was made
abbrev pub Pours : Made → Made → Made → Type 0
Pours old new a =
    (new.next ≡ a.next)
    × (new.births ≡ old.births ++ a.births)
    × (new.named ≡ old.named ++ a.named)
    × (new.rules ≡ old.rules ++ a.rules)
    × (new.atoms ≡ old.atoms ++ a.atoms)
    × (new.outs ≡ old.outs ++ a.outs)

-- the standing of a location that was found
abbrev pub standing_of : Option Placed → Option Standing
standing_of None = None
standing_of (Some p) = Some (record { host = p.host; marked = p.marked })
