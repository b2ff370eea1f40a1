use Rattle.site_shelves.proofs.Noting.{others-next}
use Rattle.site_shelves.proofs.covering.drop_keys.Goals as goal

pub loop-place-preserved : goal.loop-place-preserved
loop-place-preserved c = others-next c.args.serial c.args.rules.site c.in-Some.k c.args.keys.now
    c.loop-place.keys c.remove.new.self c.loop-place.invariant c.remove.ensures.updates.2
