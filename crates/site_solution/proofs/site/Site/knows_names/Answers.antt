use Rattle.site_shelves.specs.Named.{in_tree}
use Rattle.site_solution.specs.inside.Stored.{seen}
use Rattle.site_solution.proofs.Knowing.{known-named}
use Rattle.site_solution.proofs.site.Site.knows_names.Goals as goal

pub returns : goal.returns
returns c = λ e. rw (← c.self.view_is)
    (known-named c.self.inside.known (in_tree c.args.tree.now) (seen c.self.inside)
    (c.names_are_known.ensures.lost e) (c.names_are_known.ensures.all e) c.self.invariant.known)
