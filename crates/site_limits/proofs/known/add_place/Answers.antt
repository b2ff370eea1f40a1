use Rattle.std.proofs.Common.{refl}
use Rattle.site_limits.proofs.Learned.{place-noted}
use Rattle.site_limits.proofs.known.add_place.Goals as goal

pub returns-in-Ok : goal.returns-in-Ok
returns-in-Ok c = place-noted c.args.known.now _ c.args.loc refl c.in-Ok.ensures.ok refl refl refl
    refl
