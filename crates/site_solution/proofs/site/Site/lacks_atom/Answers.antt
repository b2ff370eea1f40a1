use Rattle.site_solution.specs.inside.Stored.{seen}
use Rattle.site_solution.proofs.Knowing.{known-absent}
use Rattle.site_solution.proofs.site.Site.lacks_atom.Goals as goal

pub returns : goal.returns
returns c = λ e. rw (← c.self.view_is)
    (known-absent c.self.inside.known c.args.atom.now (seen c.self.inside)
    (c.is_beyond.ensures.lost e) (c.is_beyond.ensures.past e) c.self.invariant.known)
