use Rattle.std.proofs.Common.{◌∙◌, sym}
use Rattle.queue_cells.proofs.Messages.{rows-waiting}
use Rattle.queue_cells.proofs.groups.Groups.messages.Goals as goal

pub returns : goal.returns
returns g c = rw (← c.self.view_is) (c.len.ensures ∙ sym c.self.invariant.counted
    ∙ sym (rows-waiting c.self.inside.cells.slots c.self.inside.rows.items c.self.invariant.each))
