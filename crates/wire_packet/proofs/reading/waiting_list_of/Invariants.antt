use Rattle.std.proofs.Common.{◌≡◌, ℕ, ◌-◌, List}
use Rattle.wire_packet.specs.declared.parcel.Packet.{Packet}
use Rattle.wire_packet.specs.declared.packet.Waiting.{Waiting}
use Rattle.wire_packet.specs.Format.{Format}
use Rattle.wire_packet.specs.inside.Ids.{holds}
use Rattle.wire_packet.specs.ParcelFacts.{waiting_ids}
use Rattle.wire_packet.specs.Packets.{waiting_list, members, waiting_member, has}
use Rattle.wire_packet.specs.Reading.{read}
use Rattle.wire_packet.proofs.reading.waiting_list_of.Given as goal

abbrev pub invariant-loop : goal.invariant-loop
invariant-loop l =
    ((next : List Waiting → Format Packet)
    → read (waiting_list l.loc l.count next) l.bytes
    ≡ read (members (waiting_member l.loc) l.waiting (l.count - l.counter) next) l.rest)
    × ((s k : ℕ) → holds l.ids s k ≡ has s k (waiting_ids l.waiting))
