-- Members of lists of pieces.
use Rattle.std.specs.Prelude.{◌≡◌, ℕ, ◌+◌, ◌<◌, List, length, take, Some, slice_get}
use Rattle.net_core.specs.Parts.{joined}

-- the member at this place of all pieces is the one at this index of this piece
pub record IsPlace {X : Type 0} (pieces : List (List X)) (place piece index : ℕ) : Type 0 where
  pub members : List X
  pub is : slice_get pieces piece ≡ Some members
  pub below : index < length members
  pub place_is : place ≡ length (joined (take piece pieces)) + index
