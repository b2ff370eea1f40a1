use Rattle.std.proofs.Common.{◌≡◌, ◌+◌, length}
use Rattle.net_core.specs.inside.Runs.{spread}
use Rattle.net_core.proofs.drained.pop_sender.Given as goal

abbrev pub invariant-loop-count : goal.invariant-loop-count
invariant-loop-count l = record {
  same : spread l.runs.items ≡ spread l.initial.runs.items;
  left : length l.runs.items + l._count ≡ length l.initial.runs.items;
}
