use Rattle.std.proofs.Common.{◌≡◌, length, drop}
use Rattle.sort_check.specs.inside.First.{same_sorts}
use Rattle.sort_check.proofs.fault.same_all.Given as goal

abbrev pub invariant-loop-index : goal.invariant-loop-index
invariant-loop-index l = record {
  long : length l.one ≡ length l.other;
  rest : same_sorts (drop l.index l.one) (drop l.index l.other) ≡ same_sorts l.one l.other;
}
