use Rattle.std.proofs.Common.{◌<◌, length, ◌∙◌, Some, length-set}
use Rattle.shared_net.proofs.Members.{drop-at}
use Rattle.shared_net.proofs.Slots.{mark-next}
use Rattle.shared_net.proofs.inside.mark.Goals as goal

pub loop-receipt-preserved : goal.loop-receipt-preserved
loop-receipt-preserved c =
    let rs = c.args.receipts.now in
    let i = c.loop-receipt.receipt-index in
    let r = c.receipt-item.result in
    let slots = c.loop-receipt.slots.items in
    let l : i < length rs = c.loop-receipt-test.true in
    let left = rw (drop-at rs i r l c.receipt-item.is) at c.loop-receipt.invariant.below in
    let same = length-set slots r.place (Some c.args.number) in
    record {
      short = same ∙ c.loop-receipt.invariant.short;
      below = rw same left.1;
      marks = λ k. mark-next slots c.args.number rs i r l c.receipt-item.is left.0 k
          ∙ c.loop-receipt.invariant.marks k;
    }
