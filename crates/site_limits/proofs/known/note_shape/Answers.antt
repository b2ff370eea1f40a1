use Rattle.std.proofs.Common.{refl}
use Rattle.site_limits.proofs.Learned.{shape-noted}
use Rattle.site_limits.proofs.known.note_shape.Goals as goal

pub returns-in-Ok : goal.returns-in-Ok
returns-in-Ok c = shape-noted c.args.known.now _ c.args.told.now refl refl refl refl
    c.in-Ok.ensures.ok refl
