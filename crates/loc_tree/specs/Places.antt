-- What a tree of locations stands for: the hosts and marks of a numbered solution's locations.
use Rattle.std.specs.Prelude.{◌≡◌, ℕ, ◌<◌, Bool, cond, List, Option, Some, None}
use Rattle.chem_model.specs.declared.name.Loc.{Loc}
use Rattle.chem_model.specs.declared.numbered.Placed.{Placed}
use Rattle.chem_model.specs.Solution.{Standing, Places}
use Rattle.chem_model.specs.Numbered.{standing}
use Rattle.chem_model.specs.Opening.{root_of}
use Rattle.loc_tree.specs.declared.tree.Spot.{Spot}
use Rattle.loc_tree.specs.Tree.{Tree, spot, number_in, is_root}

-- a root has no host; the host of every other location is the root of its number
abbrev pub host_in : Bool → ℕ → Option Loc
host_in root number = cond root None (Some (root_of number))

abbrev pub standing_in : Bool → Option Spot → Option Standing
standing_in root None = None
standing_in root (Some s) = Some (record { host = host_in root s.number; marked = s.marked })

-- the hosts and marks that the tree stands for
abbrev pub places_in : Tree → Places
places_in t l = standing_in (is_root t l) (spot t l)

-- what every tree keeps: each root is there, with the number of its own site, and each number is
-- that of a root
pub record IsTree (t : Tree) : Type 0 where
  pub rooted : (i : ℕ) → i < t.roots → number_in (spot t (root_of i)) ≡ Some i
  pub below : (l : Loc) (i : ℕ) → number_in (spot t l) ≡ Some i → i < t.roots

-- the tree has the locations of a numbered solution, with the hosts and marks that they have there
pub record IsTreeOf (t : Tree) (placed : List Placed) : Type 0 where
  pub is : IsTree t
  pub same : (l : Loc) → standing placed l ≡ places_in t l
