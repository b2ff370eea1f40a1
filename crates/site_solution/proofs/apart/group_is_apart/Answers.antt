use Rattle.std.proofs.Common.{◌∙◌, sym, ap}
use Rattle.std.specs.Prelude.{not, ◌||◌}
use Rattle.std.specs.List.{list_all}
use Rattle.chem_model.specs.Solution.{same_loc}
use Rattle.queue_cells.specs.Grouped.{lists_at}
use Rattle.site_shelves.specs.declared.told.Told.TheInside.{Inside}
use Rattle.net_laws.specs.Site.{Told}
use Rattle.site_solution.specs.inside.Parted.{message_apart}
use Rattle.site_solution.proofs.Parting.{group-parted}
use Rattle.site_solution.proofs.apart.group_is_apart.Goals as goal

pub returns-then-not-same_loc : goal.returns-then-not-same_loc
returns-then-not-same_loc c = λ g at.
    let place = ap (λ (d : Told). same_loc c.args.loc d.inst.loc) (sym c.behind-from.view_is)
    ∙ ap (λ (d : Inside). same_loc c.args.loc d.inst.loc) (sym c.told-2.view_is)
    ∙ sym c.same_loc.ensures ∙ c.if-not-same_loc.true in
    let rest = list_all (list_all (message_apart c.args.site.now c.args.but))
    (lists_at c.args.from.now.groups c.args.group) in
    group-parted c.args.site.now c.args.but c.args.loc c.args.from.now.groups c.args.group _
    (not c.same_loc.result) g c.told.ensures at
    (ap not c.if-not-same_loc.true ∙ ap (λ b. not b || rest) (sym place))

pub returns-else-not-same_loc : goal.returns-else-not-same_loc
returns-else-not-same_loc c = λ g at.
    let place = ap (λ (d : Told). same_loc c.args.loc d.inst.loc) (sym c.behind-from.view_is)
    ∙ ap (λ (d : Inside). same_loc c.args.loc d.inst.loc) (sym c.told-2.view_is)
    ∙ sym c.same_loc.ensures ∙ c.if-not-same_loc.false in
    let rest = list_all (list_all (message_apart c.args.site.now c.args.but))
    (lists_at c.args.from.now.groups c.args.group) in
    group-parted c.args.site.now c.args.but c.args.loc c.args.from.now.groups c.args.group _
    c.queues_are_apart.result g c.told.ensures at
    (c.queues_are_apart.ensures ∙ ap (λ b. not b || rest) (sym place))
