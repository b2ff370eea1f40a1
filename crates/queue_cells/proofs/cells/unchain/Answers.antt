use Rattle.std.proofs.Common.{rules}
use Rattle.queue_cells.proofs.Walks.{front-cell, Unchained-from}
use Rattle.queue_cells.proofs.cells.unchain.Goals as goal

pub remove-message-requires : goal.remove-message-requires
remove-message-requires g c =
    let cell = front-cell c.args.cells.now.slots c.args.ends c.requires.some c.requires.queue in
    rw cell.1 (search rules)

pub returns-clause-unchained : goal.returns-clause-unchained
returns-clause-unchained g c =
    Unchained-from _ _ c.args.ends c.remove-message.result c.requires.some c.requires.queue
    c.requires.once c.remove-message.ensures.value c.remove-message.ensures.updates
