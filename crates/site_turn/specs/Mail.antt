-- Mail of a site: texts, each the spelling of a packet with a message.
use Rattle.std.specs.Prelude.{ℕ, List, [], ◌∷◌}
use Rattle.wire_packet.specs.MessageFacts.{MessageParts}
use Rattle.wire_packet.specs.declared.packet.Flight.{Flight}
use Rattle.wire_packet.specs.declared.parcel.Packet.TheVariants as packet
use Rattle.wire_packet.specs.Codec.{IsSpelledBy}

-- the text spells a message
abbrev pub IsMessageText : List ℕ → Type 0
IsMessageText text = (m : MessageParts) × IsSpelledBy (packet.Message m) text

-- the flight carries one
abbrev pub IsMessageFlight : Flight → Type 0
IsMessageFlight f = IsMessageText f.bytes

-- the texts spell these messages, one for one
abbrev pub AreSpelled : List MessageParts → List (List ℕ) → Type 0
AreSpelled [] [] = Unit {0}
AreSpelled [] (text ∷ texts) = ⊥
AreSpelled (m ∷ ms) [] = ⊥
AreSpelled (m ∷ ms) (text ∷ texts) = IsSpelledBy (packet.Message m) text × AreSpelled ms texts
