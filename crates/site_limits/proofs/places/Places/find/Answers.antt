use Rattle.std.proofs.Common.{◌∙◌}
use Rattle.site_limits.proofs.Hosting.{pairs-among}
use Rattle.site_limits.proofs.places.Places.find.Goals as goal

pub returns : goal.returns
returns c = rw (← c.self.view_is)
    (c.get_index_of.ensures.found ∙ pairs-among c.self.inside.pairs.keys c.args.loc.now)
