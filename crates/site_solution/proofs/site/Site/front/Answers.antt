use Rattle.std.proofs.Common.{◌∙◌, [], length, ap, arith}
use Rattle.std.specs.Prelude.{slice_get, slice_index_or}
use Rattle.site_solution.proofs.site.Site.front.Goals as goal

pub front-requires-clause-group : goal.front-requires-clause-group
front-requires-clause-group c =
    let inside = rw (← c.self.view_is) at c.requires.group in
    omega (arith, inside, c.rows.ensures.many)

pub front-requires-clause-chan : goal.front-requires-clause-chan
front-requires-clause-chan c =
    let inside = rw (← c.self.view_is) at c.requires.chan in
    omega (arith, inside, ap length (c.rows.ensures.queues c.args.group))

pub returns : goal.returns
returns c = rw (← c.self.view_is) (c.front.ensures
    ∙ ap (λ qs. slice_get (slice_index_or qs c.args.chan []) 0)
    (c.rows.ensures.queues c.args.group))
