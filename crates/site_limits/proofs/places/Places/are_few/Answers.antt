use Rattle.std.proofs.Common.{arith}
use Rattle.site_limits.proofs.Hosting.{length-locs_of}
use Rattle.site_limits.proofs.places.Places.are_few.Goals as goal

pub returns : goal.returns
returns c =
    rw (← c.self.view_is) (omega (arith, length-locs_of c.self.inside.pairs.keys, c.self.invariant))
