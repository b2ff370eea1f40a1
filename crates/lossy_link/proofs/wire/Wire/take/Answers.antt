use Rattle.lossy_link.proofs.Texts.{left_frames, on_ok_from}
use Rattle.lossy_link.proofs.wire.Wire.take.Goals as goal

pub returns-clause-left : goal.returns-clause-left
returns-clause-left c = on_ok_from c.frame_spelled.result
    (left_frames c.self.inside.texts.items c.remove.new.self.items c.args.self.now c.args.place
    c.self.view_is c.in-Some.ensures.items)
