use Rattle.std.proofs.Common.{◌<◌, arith}
use Rattle.indexmap.specs.IndexSet.{spare}
use Rattle.site_limits.proofs.Hosting.{if-ok, inserted}
use Rattle.site_limits.proofs.places.Places.add_reserved.Goals as goal

pub returns-clause-locs : goal.returns-clause-locs
returns-clause-locs c =
    let absent = rw (← c.self.view_is) at c.requires.new in
    let given = rw (← c.self.view_is) at c.requires.room in
    let room : 0 < spare c.self.inside.pairs = omega arith in
    rw (← c.self.view_is) (if-ok c.insert.result _ _ (c.insert.ensures.succeeds room)
    c.insert.ensures.keys (λ r keys. inserted c.self.inside.pairs.keys c.args.loc _ absent keys))
