use Rattle.std.proofs.Common.{◌≡◌, ◌+◌, ◌-◌, ◌++◌}
use Rattle.shared_net.specs.Passes.{new_passes}
use Rattle.shared_net.proofs.locked.pass_each.Given as goal

abbrev pub invariant-loop-i : goal.invariant-loop-i
invariant-loop-i g l = record {
  parts : l.rest.parts + l.i ≡ l.passes;
  amount : l.rest.amount ≡ 0;
  list :
      l.list.items ++ new_passes l.budget (l.i + 1) (l.passes - l.i)
      ≡ new_passes l.budget 1 l.passes;
}
