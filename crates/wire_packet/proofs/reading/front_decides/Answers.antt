use Rattle.wire_packet.specs.Packets.{packets}
use Rattle.wire_packet.proofs.Laws as laws
use Rattle.wire_packet.proofs.reading.front_decides.Goals as goal

pub returns : goal.returns
returns c = λ front rest other place le w. laws.front_decides packets front rest other place le w
