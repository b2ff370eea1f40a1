-- What a tree keeps of its fields.
use Rattle.std.specs.Prelude.{◌≡◌, ℕ, ◌<◌, ◌≤◌, Bool, true, not, ◌||◌, nat_eq, nat_lt, is_some}
use Rattle.std.specs.Prelude.{None, List, length, slice_index}
use Rattle.chem_model.specs.declared.name.Loc.{Loc}
use Rattle.chem_model.specs.NewNames.{Pair}
use Rattle.loc_tree.specs.Tree.{Tree, spot}
use Rattle.loc_tree.specs.Places.{IsTree}

-- the location with this number of this site
abbrev pub loc_at : ℕ → ℕ → Loc
loc_at site k = record { site = site; k = k }

-- no location of this site with this number or a larger one
abbrev pub is_below : ℕ → ℕ → Pair → Bool
is_below site from p = not (nat_eq p.0 site) || nat_lt p.1 from

-- the largest number of a location of this site
pub record IsNewest (t : Tree) (site newest : ℕ) : Type 0 where
  pub there : is_some (spot t (loc_at site newest)) ≡ true
  pub last : (k : ℕ) → newest < k → spot t (loc_at site k) ≡ None

-- the largest numbers of the sites that have a root, in order
pub record AreNewest (t : Tree) (numbers : List ℕ) : Type 0 where
  pub count : length numbers ≡ t.roots
  pub each : (i : ℕ) → i < t.roots → IsNewest t i (slice_index numbers i)

-- the map has at least the room that is counted
pub record IsStored (t : Tree) (numbers : List ℕ) (left : ℕ) : Type 0 where
  pub is : IsTree t
  pub newest : AreNewest t numbers
  pub room : t.spare ≤ left
