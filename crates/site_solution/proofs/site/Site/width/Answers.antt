use Rattle.std.proofs.Common.{◌∙◌, length, ap, arith}
use Rattle.site_solution.proofs.site.Site.width.Goals as goal

pub width-requires : goal.width-requires
width-requires c =
    let inside = rw (← c.self.view_is) at c.requires in
    omega (arith, inside, c.rows.ensures.many)

pub returns : goal.returns
returns c =
    rw (← c.self.view_is) (c.width.ensures ∙ ap length (c.rows.ensures.queues c.args.group))
