-- What is in a tree, part by part.
use Rattle.std.specs.Prelude.{Bool, List}
use Rattle.chem_model.specs.declared.name.Name.{Name}
use Rattle.wire_packet.specs.MessageFacts.{MessageParts}
use Rattle.wire_packet.specs.GroupFacts.{RequestParts}
use Rattle.wire_packet.specs.declared.packet.Ask.{Ask}
use Rattle.loc_tree.specs.Tree.{Tree}
use Rattle.net_laws.specs.Site.{Group}
use Rattle.site_shelves.specs.Named.{names_in, queues_in, group_in, ask_in, request_in, in_tree}

abbrev pub names_stand : Tree → List Name → Bool
names_stand t = names_in (in_tree t)

abbrev pub queues_stand : Tree → List (List MessageParts) → Bool
queues_stand t = queues_in (in_tree t)

abbrev pub group_stands : Tree → Group → Bool
group_stands t = group_in (in_tree t)

abbrev pub ask_stands : Tree → Ask → Bool
ask_stands t = ask_in (in_tree t)

abbrev pub request_stands : Tree → RequestParts → Bool
request_stands t = request_in (in_tree t)
