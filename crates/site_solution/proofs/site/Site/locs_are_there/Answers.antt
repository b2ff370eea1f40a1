use Rattle.std.proofs.Common.{ap, ◌∙◌}
use Rattle.std.specs.List.{list_all}
use Rattle.site_shelves.specs.InTree.{has_number}
use Rattle.site_limits.proofs.Hosting.{hosted-there}
use Rattle.site_solution.proofs.site.Site.locs_are_there.Goals as goal

pub returns : goal.returns
returns c = rw (← c.self.view_is) (c.hosts_all.ensures
    ∙ hosted-there c.args.tree.now c.self.inside.number c.as_slice.result.now
    ∙ ap (list_all (has_number c.args.tree.now c.self.inside.number)) c.as_slice.ensures)
