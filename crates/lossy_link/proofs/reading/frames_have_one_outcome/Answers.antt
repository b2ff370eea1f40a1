use Rattle.wire_packet.proofs.Whole.{has_one}
use Rattle.lossy_link.specs.FrameFormat.{frames}
use Rattle.lossy_link.proofs.reading.frames_have_one_outcome.Goals as goal

pub returns : goal.returns
returns c = λ bytes e. has_one frames bytes e
