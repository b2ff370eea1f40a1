-- Names by binder, of which all but the first few stand in a map too.
use Rattle.std.specs.Prelude.{◌≡◌, ℕ, List, [], ◌∷◌, ◌++◌, Option, Some, None, drop}
use Rattle.std.specs.Ordering.{nat_cmp}
use Rattle.std.specs.BTreeMap.{BTreeMap, get}
use denote.Ref.{Bor}
use Rattle.chem_model.specs.declared.name.Name.{Name}
use Rattle.chem_model.specs.Fill.{Naming, name_at}

-- so many entries are walked, and the map finds what a walk over the others finds
abbrev pub walked : ℕ
walked = 8

abbrev pub IsIndex : Naming → BTreeMap ℕ Name → Type 0
IsIndex m index = (q : ℕ) → get nat_cmp index q ≡ name_at (drop walked m) q

-- the first answer that there is
abbrev pub or_name : Option Name → Option Name → Option Name
or_name None q = q
or_name (Some x) q = Some x

-- levels, the innermost first
abbrev pub levels_around : Naming → Option (Bor (List Naming)) → List Naming
levels_around m None = m ∷ []
levels_around m (Some outer) = m ∷ outer.now

-- their names, the outermost first
abbrev pub names_of : List Naming → Naming
names_of [] = []
names_of (m ∷ ms) = names_of ms ++ m
