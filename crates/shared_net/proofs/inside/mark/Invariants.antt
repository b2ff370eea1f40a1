use Rattle.std.proofs.Common.{◌≡◌, ℕ, ◌<◌, cond, drop, length, Some}
use Rattle.chem_model.specs.Each.{Each}
use Rattle.shared_net.specs.inside.Walk.{slot_at, has_place}
use Rattle.shared_net.proofs.inside.mark.Given as goal

abbrev pub invariant-loop-receipt : goal.invariant-loop-receipt
invariant-loop-receipt l = record {
  short : length l.slots.items ≡ length l.initial.slots.items;
  below : Each (λ r. r.place < length l.slots.items) (drop l.receipt-index l.receipts);
  marks : (k : ℕ)
      → cond (has_place k (drop l.receipt-index l.receipts)) (Some l.number)
      (slot_at l.slots.items k)
      ≡ cond (has_place k l.receipts) (Some l.number) (slot_at l.initial.slots.items k);
}
