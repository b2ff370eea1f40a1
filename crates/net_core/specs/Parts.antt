-- What a network is made of, and the network of the laws that these parts stand for.
use Rattle.std.specs.Prelude.{ℕ, zero, suc, List, [], ◌∷◌, ◌++◌, Result, Ok, Err}
use Rattle.chem_model.specs.declared.name.Name.TheVariants as name
use Rattle.wire_packet.specs.MessageFacts.{MessageParts}
use Rattle.wire_packet.specs.declared.packet.Flight.{Flight}
use Rattle.wire_packet.specs.declared.parcel.Packet.{Packet}
use Rattle.wire_packet.specs.declared.parcel.Packet.TheVariants as packet
use Rattle.wire_packet.specs.Codec.{IsSpelledBy}
use Rattle.wire_packet.specs.Packets.{packets}
use Rattle.wire_packet.specs.Reading.{read}
use Rattle.loc_tree.specs.Tree.{bare}
use Rattle.net_laws.specs.Net.{Addressed, Net}
use Rattle.net_core.specs.declared.parts.Parts.{Parts}

-- the members of all pieces, in order
abbrev pub joined : {X : Type 0} → List (List X) → List X
joined [] = []
joined (xs ∷ pieces) = xs ++ joined pieces

-- the members but the one at this place
abbrev pub without : {X : Type 0} → ℕ → List X → List X
without n [] = []
without zero (x ∷ xs) = xs
without (suc n) (x ∷ xs) = x ∷ without n xs

-- no message: what bytes stand for that spell none
abbrev pub no_message : MessageParts
no_message = record { id = record { site = 0; k = 0 }; on = name.Seen 0; args = [] }

abbrev pub message_read : Result Packet ℕ → MessageParts
message_read (Ok (packet.Message m)) = m
message_read (Ok (packet.Parcel p)) = no_message
message_read (Err e) = no_message

-- the message that bytes spell
unfoldable pub message_in : List ℕ → MessageParts
message_in bytes = message_read (read packets bytes)

-- the message under way that a flight carries
abbrev pub carried : Flight → Addressed
carried f = record { target = f.target; msg = message_in f.bytes }

abbrev pub all_carried : List Flight → List Addressed
all_carried [] = []
all_carried (f ∷ fs) = carried f ∷ all_carried fs

-- the bytes are the spelling of a message
abbrev pub IsMessageText : List ℕ → Type 0
IsMessageText bytes = IsSpelledBy (packet.Message (message_in bytes)) bytes

-- it carries a message's spelling
abbrev pub IsMessageFlight : Flight → Type 0
IsMessageFlight f = IsMessageText f.bytes

-- the network that these parts stand for, where so many names are observed of each declaration
abbrev pub net_of : List ℕ → Parts → Net
net_of seen p = record {
  version = p.version;
  seen = seen;
  sites = p.sites.items;
  tree = bare p.tree;
  trace = joined p.trace.items;
  packets = all_carried p.flights.items;
}
