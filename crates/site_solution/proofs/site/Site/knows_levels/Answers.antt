use Rattle.site_solution.specs.inside.Stored.{seen}
use Rattle.site_solution.proofs.Knowing.{known-told}
use Rattle.site_solution.proofs.site.Site.knows_levels.Goals as goal

pub returns : goal.returns
returns c = λ e. rw (← c.self.view_is)
    (known-told c.self.inside.known c.args.code.now (seen c.self.inside)
    (c.levels_are_known.ensures.lost e) (c.levels_are_known.ensures.all e)
    c.self.invariant.known)
