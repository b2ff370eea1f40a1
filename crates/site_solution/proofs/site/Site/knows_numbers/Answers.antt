use Rattle.site_solution.specs.inside.Stored.{seen}
use Rattle.site_solution.proofs.Knowing.{known-drawn}
use Rattle.site_solution.proofs.site.Site.knows_numbers.Goals as goal

pub returns : goal.returns
returns c = λ e. rw (← c.self.view_is)
    (known-drawn c.self.inside.known (seen c.self.inside) (c.numbers_are_known.ensures.lost e)
    (c.numbers_are_known.ensures.drawn e) (c.numbers_are_known.ensures.past e)
    c.self.invariant.known)
