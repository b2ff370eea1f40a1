use Rattle.wire_packet.proofs.Laws.{never_both}
use Rattle.lossy_link.specs.FrameFormat.{frames}
use Rattle.lossy_link.proofs.Exact.{frame_spells}
use Rattle.lossy_link.proofs.reading.frame_spelled.Goals as goal

pub unreachable-requires : goal.unreachable-requires
unreachable-requires c =
    never_both frames c.args.bytes.now c.requires.0 c.in-Err.field-0
    (frame_spells c.requires.0 c.args.bytes.now c.requires.1) c.in-Err.ensures
