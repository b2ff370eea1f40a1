use Rattle.std.proofs.Common.{◌∙◌}
use Rattle.site_solution.proofs.Parting.{parted-is}
use Rattle.site_solution.proofs.site.Site.apart.Goals as goal

pub returns : goal.returns
returns c =
    c.is_parted.ensures ∙ parted-is c.args.self.now c.args.from.now c.args.but.now c.args.loc.now
