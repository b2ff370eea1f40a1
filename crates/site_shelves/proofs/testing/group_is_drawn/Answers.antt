use Rattle.std.proofs.Common.{◌∙◌, sym, ap}
use Rattle.std.specs.Prelude.{◌&&◌}
use Rattle.queue_cells.specs.Grouped.{lists_at}
use Rattle.site_shelves.specs.Draws.{queues_drawn}
use Rattle.site_shelves.proofs.Walked.{group-drawn}
use Rattle.site_shelves.proofs.testing.group_is_drawn.Goals as goal

pub returns-then-told_is_drawn : goal.returns-then-told_is_drawn
returns-then-told_is_drawn c = λ g at.
    group-drawn c.args.count.number c.args.count.made c.args.groups.now.groups c.args.group _
    c.told_is_drawn.result c.queues_are_drawn.result c.queues_are_drawn.result g c.told.ensures at
    c.told_is_drawn.ensures c.queues_are_drawn.ensures
    (ap (λ x. x && c.queues_are_drawn.result) (sym c.if-told_is_drawn.true))

pub returns-else-told_is_drawn : goal.returns-else-told_is_drawn
returns-else-told_is_drawn c = λ g at.
    let rest = queues_drawn c.args.count.number c.args.count.made
    (lists_at c.args.groups.now.groups c.args.group) in
    group-drawn c.args.count.number c.args.count.made c.args.groups.now.groups c.args.group _
    c.told_is_drawn.result rest c.told_is_drawn.result g c.told.ensures at c.told_is_drawn.ensures
    (λ _. rest) (c.if-told_is_drawn.false ∙ sym (ap (λ x. x && rest) c.if-told_is_drawn.false))
