use Rattle.lossy_link.proofs.Texts.{below_texts, left_frames, on_some}
use Rattle.lossy_link.proofs.wire.Wire.lose.Goals as goal

pub returns : goal.returns
returns c =
    let below = below_texts c.self.inside.texts.items c.args.self.now c.args.place
    c.self.inside.texts.len c.self.view_is c.self.inside.texts.ok.0 c.requires in
    let gone = on_some c.remove-lost.result (c.remove-lost.ensures.variant.1 below)
    c.remove-lost.ensures.items in
    left_frames c.self.inside.texts.items c.remove-lost.new.self.items c.args.self.now c.args.place
    c.self.view_is gone
