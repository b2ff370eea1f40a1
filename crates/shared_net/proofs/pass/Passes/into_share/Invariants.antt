use Rattle.std.proofs.Common.{◌≡◌, ◌+◌, length, map}
use Rattle.shared_net.specs.Agrees.{row_of, all_receipts}
use Rattle.shared_net.proofs.pass.Passes.into_share.Given as goal

abbrev pub invariant-loop-pass : goal.invariant-loop-pass
invariant-loop-pass g l = record {
  parts : l.all.parts + length l.left.items ≡ length l.fn.self;
  amount :
      l.all.amount + length (all_receipts (map row_of l.left.items))
      ≡ length (all_receipts (map row_of l.fn.self));
}

abbrev pub decreases-loop-pass : goal.decreases-loop-pass
decreases-loop-pass g l = goal.left-loop-pass g l
