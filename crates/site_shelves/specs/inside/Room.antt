-- The room that groups and messages to come take.
use Rattle.std.specs.Prelude.{◌≡◌, ◌+◌, ◌≤◌, Bool, true, false, List, [], ◌∷◌, length, Vec}
use Rattle.std.specs.Prelude.{vec_capacity}
use Rattle.std.specs.declared.alloc.Global.{Global}
use Rattle.wire_packet.specs.MessageFacts.{MessageParts}
use Rattle.wire_packet.specs.declared.packet.Waiting.{Waiting}
use Rattle.queue_cells.specs.Grouped.{Grouped}
use Rattle.net_laws.specs.Site.{Told}
use Rattle.site_shelves.specs.declared.told.Spots.{Spots}
use Rattle.site_shelves.specs.declared.more.More.{More}
use Rattle.site_shelves.specs.inside.Index.{HasRoom}
use Rattle.site_shelves.specs.inside.New.{widths}

-- where groups are laid, all that was stuck is to be put again
abbrev pub IsRestacked : Bool → List Waiting → List Waiting → List Waiting → Type 0
IsRestacked false old again new = (again ≡ []) × (new ≡ old)
IsRestacked true old again new = (again ≡ old) × (new ≡ [])

abbrev pub some_of : {X : Type 0} → List X → Bool
some_of [] = false
some_of (x ∷ xs) = true

-- groups are laid
abbrev pub lays : More → Bool
lays m = some_of m.groups.items

-- all of it fits with no allocation, and what is to be put again
pub record HasRoomFor (m : More) (again : List Waiting)
    (groups : Grouped Told MessageParts) (spots : Spots)
    (stuck : Vec Waiting Global) : Type 0 where
  pub messages : length again + length m.waiting.items ≤ groups.spare
  pub groups_fit : length m.groups.items ≤ groups.spare_groups
  pub channels : HasRoom spots (length m.groups.items) (widths m.groups.items)
  pub left : length again + length stuck.items + length m.waiting.items ≤ vec_capacity stuck
