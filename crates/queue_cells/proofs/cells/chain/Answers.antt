use Rattle.std.proofs.Common.{◌<◌, arith}
use Rattle.queue_cells.proofs.Walks.{Chained-first, Chained-next, Linked-from}
use Rattle.queue_cells.proofs.cells.chain.Goals as goal

pub returns-then-ends-eq0-clause-chained : goal.returns-then-ends-eq0-clause-chained
returns-then-ends-eq0-clause-chained g c = Chained-first _ _ _ _ c.args.ends 0 (omega arith)
    c.insert_reserved-key.ensures.was_vacant c.insert_reserved-key.ensures.updates

pub returns-clause-chained : goal.returns-clause-chained
returns-clause-chained g c =
    let some : 0 < c.args.ends.count = omega arith in
    Chained-next _ _ _ _ c.args.ends some c.requires.queue c.requires.once
    (Linked-from c.args.cells.now c.insert_reserved-key.new.self c.link.new.cells c.args.ends _ 0
    c.args.message some c.requires.queue c.insert_reserved-key.ensures.was_vacant
    c.insert_reserved-key.ensures.updates c.link.ensures.linked c.link.ensures.others)
