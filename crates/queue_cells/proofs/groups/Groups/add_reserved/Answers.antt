use Rattle.queue_cells.proofs.RowLemmas.{AreRows-add, view-add}
use Rattle.queue_cells.proofs.groups.Groups.add_reserved.Goals as goal

pub invariant_of-self : goal.invariant_of-self
invariant_of-self g c = rw c.push_reserved.ensures.items
    (AreRows-add c.self.inside.cells c.self.inside.rows.items _ c.idle.invariant c.self.invariant)

pub returns-clause-groups : goal.returns-clause-groups
returns-clause-groups g c = rw (← c.self.view_is, ← c.idle.view_is, c.push_reserved.ensures.items)
    (view-add c.self.inside.cells.slots c.self.inside.rows.items _ c.idle.invariant)
