use Rattle.std.proofs.Common.{Some}
use Rattle.shared_net.specs.declared.receipt.Receipt.{Receipt}
use Rattle.shared_net.specs.inside.Walk.{IsStale, Looks}
use Rattle.shared_net.proofs.Members.{OneOf-at}
use Rattle.shared_net.proofs.inside.look_all.Goals as goal

pub returns-in-Some : goal.returns-in-Some
returns-in-Some c =
    let d = c.in-Some.differs in
    let stale : Looks c.args.journal.now c.args.slots.now c.args.number c.receipt-item.result
    (Some d) = rw c.in-Some.is at c.in_ok-differs.ensures in
    OneOf-at (λ (r : Receipt). IsStale c.args.journal.now c.args.slots.now c.args.number r d)
    c.args.receipts.now c.loop-receipt.receipt-index c.receipt-item.result c.loop-receipt-test.true
    c.receipt-item.is stale
