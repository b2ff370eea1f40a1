use Rattle.lossy_link.proofs.Exact.{frame_is, frame_spells}
use Rattle.lossy_link.proofs.reading.frames_have_one_spelling.Goals as goal

pub returns : goal.returns
returns c = λ x bytes. (frame_is x bytes, frame_spells x bytes)
