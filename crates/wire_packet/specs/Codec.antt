-- What reading and writing promise.
use Rattle.std.specs.Prelude.{◌≡◌, ℕ, List, Result, Err, ◌⊎◌}
use Rattle.wire_packet.specs.declared.fault.DecodeEnd.{DecodeEnd}
use Rattle.wire_packet.specs.declared.fault.DecodeEnd.TheVariants as end
use Rattle.wire_packet.specs.declared.parcel.Packet.{Packet}
use Rattle.wire_packet.specs.Allowed.{IsPacket}
use Rattle.wire_packet.specs.Format.{WrongAt}
use Rattle.wire_packet.specs.Packets.{packets}
use Rattle.wire_packet.specs.Spelling.{spelling}

-- these bytes are the packet's spelling
abbrev pub IsSpelledBy : Packet → List ℕ → Type 0
IsSpelledBy p bytes = IsPacket p × (bytes ≡ spelling p)

-- what the end says of the bytes
abbrev pub NamesWrong : DecodeEnd → List ℕ → Type 0
NamesWrong (end.Bad place) bytes = WrongAt packets bytes place
NamesWrong end.Memory bytes = Unit {0}

-- the result is this answer, or want of memory
abbrev pub IsOrMemory : Result Packet DecodeEnd → Result Packet DecodeEnd → Type 0
IsOrMemory answer result = (result ≡ answer) ⊎ (result ≡ Err end.Memory)
