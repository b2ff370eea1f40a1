use Rattle.wire_packet.proofs.Whole.{is_spelling, spells}
use Rattle.wire_packet.proofs.reading.one_spelling.Goals as goal

pub returns : goal.returns
returns c = λ p bytes. (is_spelling p bytes, spells p bytes)
