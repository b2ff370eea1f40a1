-- When all that a site holds and names is in a tree.
use Rattle.std.specs.Prelude.{ℕ, Bool, false, ◌&&◌, ◌==◌, Option, Some, None}
use Rattle.std.specs.List.{list_all}
use Rattle.chem_model.specs.declared.name.Loc.{Loc}
use Rattle.chem_model.specs.declared.name.Name.{Name}
use Rattle.chem_model.specs.Opening.{root_of}
use Rattle.wire_packet.specs.MessageFacts.{MessageParts}
use Rattle.loc_tree.specs.Tree.{Tree, spot, number_in}
use Rattle.net_laws.specs.Site.{Site}
use Rattle.net_laws.specs.Net.{among}
use Rattle.site_shelves.specs.Named.{name_in, message_in, all_in, in_tree}

-- the location that a name names, or the home of the channel, is in the tree
abbrev pub name_stands : Tree → Name → Bool
name_stands t = name_in (in_tree t)

abbrev pub message_stands : Tree → MessageParts → Bool
message_stands t = message_in (in_tree t)

-- the location is in the tree with this number
abbrev pub is_number : Option ℕ → ℕ → Bool
is_number None i = false
is_number (Some j) i = j == i

abbrev pub has_number : Tree → ℕ → Loc → Bool
has_number t i l = is_number (number_in (spot t l)) i

-- each location that is hosted here is in the tree with the number of the site, its root is one of
-- them, and all that environments, waiting messages and requests name is in the tree
abbrev pub is_in_tree : Tree → Site → Bool
is_in_tree t s =
    (list_all (has_number t s.number) s.locs && among s.locs (root_of s.number))
    && all_in (in_tree t) s
