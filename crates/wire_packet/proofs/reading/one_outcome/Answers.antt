use Rattle.wire_packet.specs.Packets.{packets}
use Rattle.wire_packet.proofs.Whole.{has_one}
use Rattle.wire_packet.proofs.reading.one_outcome.Goals as goal

pub returns : goal.returns
returns c = λ bytes e. has_one packets bytes e
