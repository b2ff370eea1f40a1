use Rattle.std.proofs.Common.{◌∙◌, List, Some, sym, ap, arith}
use Rattle.std.specs.Prelude.{slice_get}
use Rattle.site_shelves.proofs.Queueing.{group-at}
use Rattle.site_shelves.specs.Held.{inst_in}
use Rattle.net_laws.specs.Site.{Told, Group}
use Rattle.site_solution.proofs.site.Site.group.Goals as goal

pub told-requires : goal.told-requires
told-requires c =
    let inside = rw (← c.self.view_is) at c.requires in
    omega (arith, inside, c.rows.ensures.many)

pub returns : goal.returns
returns c = rw (← c.self.view_is)
    (ap (λ (gs : List Group). inst_in (slice_get gs c.args.index)) (sym c.rows.ensures.groups)
    ∙ ap inst_in (group-at _ c.args.index _ c.told.ensures)
    ∙ ap (λ (d : Told). Some d.inst) (sym c.behind-rows.view_is))
