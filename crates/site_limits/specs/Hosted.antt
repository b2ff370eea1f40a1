-- The locations that a site hosts, as pairs in a set.
use Rattle.std.specs.Prelude.{◌≡◌, ℕ, List, [], ◌∷◌, ◌++◌, false}
use Rattle.chem_model.specs.declared.name.Loc.{Loc}
use Rattle.net_laws.specs.Net.{among}

-- the locations, and how many more fit with no allocation
pub record Hosted : Type 0 where
  pub locs : List Loc
  pub spare : ℕ

abbrev pub locs_of : List (ℕ × ℕ) → List Loc
locs_of [] = []
locs_of (p ∷ ps) = record { site = p.0; k = p.1 } ∷ locs_of ps

-- none of these is among the locations, and all are different
abbrev pub AreNew : List Loc → List Loc → Type 0
AreNew ls [] = Unit {0}
AreNew ls (b ∷ bs) = (among ls b ≡ false) × AreNew (ls ++ b ∷ []) bs
