use Rattle.std.proofs.Common.{◌≡◌, ◌+◌, List, length}
use Rattle.net_core.specs.declared.parts.Parts.{Parts}
use Rattle.net_core.specs.declared.senders.Run.{Run}
use Rattle.net_core.specs.inside.Starting.{HandsAllOut}
use Rattle.net_core.proofs.opening.hand_all_out.Given as goal

abbrev pub invariant-loop-number : goal.invariant-loop-number
invariant-loop-number l = record {
  left : l.number + length l.handed.items ≡ length l.initial.handed.items;
  rest :
      (p : Parts) (runs : List Run)
      → HandsAllOut l.number l.handed.items l.parts l.senders.items p runs
      → HandsAllOut 0 l.initial.handed.items l.initial.parts l.initial.senders.items p runs;
}
