use Rattle.std.proofs.Common.{[], ◌∷◌, ◌++◌, ap, ◌∙◌}
use Rattle.std.proofs.lemmas.Result.{on_ok_weaker}
use Rattle.lossy_link.specs.declared.frame.Frame.{Frame}
use Rattle.lossy_link.proofs.Texts.{frame_is_in, spelled_in}
use Rattle.lossy_link.proofs.wire.Wire.put.Goals as goal

pub push-requires : goal.push-requires
push-requires c = spelled_in c.args.frame.now c.in_ok-text.text c.in_ok-text.ensures

pub returns : goal.returns
returns c = on_ok_weaker c.push.result (λ is. is
    ∙ ap (λ (x : Frame). c.args.self.now ++ x ∷ [])
    (frame_is_in c.args.frame.now c.in_ok-text.text c.in_ok-text.ensures)) c.push.ensures
