use Rattle.site_shelves.proofs.Noting.{learned}
use Rattle.site_shelves.proofs.covering.learn_level.Goals as goal

pub returns-else-not-knows : goal.returns-else-not-knows
returns-else-not-knows c = λ ss gs is kept. learned c.args.covering.now.levels.items
    c.knows.new.levels.items c.args.covering.now.keys ss gs c.knows.ensures (is kept)
