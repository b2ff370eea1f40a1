use Rattle.std.proofs.Common.{◌∙◌}
use Rattle.site_solution.proofs.site.Site.groups.Goals as goal

pub returns : goal.returns
returns c = rw (← c.self.view_is) (c.len.ensures ∙ c.rows.ensures.many)
