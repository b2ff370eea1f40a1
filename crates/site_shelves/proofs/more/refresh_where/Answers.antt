use Rattle.site_shelves.specs.inside.Index.{groups_of}
use Rattle.site_shelves.proofs.Renoting.{all-aside}
use Rattle.site_shelves.proofs.more.refresh_where.Goals as goal

pub refresh_on-requires-clause-others : goal.refresh_on-requires-clause-others
refresh_on-requires-clause-others c = all-aside c.args.covering.now c.args.spots.now.serials.items
    (groups_of c.args.groups.now.groups) c.args.group c.args.chan c.requires.is
