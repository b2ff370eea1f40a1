use Rattle.std.proofs.Common.{◌∙◌, sym, ap}
use Rattle.std.specs.Prelude.{◌&&◌}
use Rattle.site_shelves.specs.declared.told.Told.TheInside.{Inside}
use Rattle.net_laws.specs.Site.{Told}
use Rattle.queue_cells.specs.Grouped.{lists_at}
use Rattle.site_shelves.specs.inside.InTree.{queues_stand}
use Rattle.site_shelves.proofs.Walked.{group-read}
use Rattle.site_shelves.proofs.walking.group_is_there.Goals as goal

pub returns-then-names_are_there : goal.returns-then-names_are_there
returns-then-names_are_there c = λ g at.
    group-read c.args.tree.now c.args.groups.now.groups c.args.group _ c.as_slice.result.now
    c.names_are_there.result c.queues_are_there.result c.queues_are_there.result g c.told.ensures at
    (c.as_slice.ensures.members ∙ ap (λ (d : Inside). d.inst.env) c.told-2.view_is
    ∙ ap (λ (d : Told). d.inst.env) c.behind-groups.view_is)
    c.names_are_there.ensures c.queues_are_there.ensures
    (ap (λ x. x && c.queues_are_there.result) (sym c.if-names_are_there.true))

pub returns-else-names_are_there : goal.returns-else-names_are_there
returns-else-names_are_there c = λ g at.
    let rest = queues_stand c.args.tree.now (lists_at c.args.groups.now.groups c.args.group) in
    group-read c.args.tree.now c.args.groups.now.groups c.args.group _
    c.as_slice.result.now c.names_are_there.result rest c.names_are_there.result g c.told.ensures at
    (c.as_slice.ensures.members ∙ ap (λ (d : Inside). d.inst.env) c.told-2.view_is
    ∙ ap (λ (d : Told). d.inst.env) c.behind-groups.view_is) c.names_are_there.ensures (λ _. rest)
    (c.if-names_are_there.false ∙ sym (ap (λ x. x && rest) c.if-names_are_there.false))
