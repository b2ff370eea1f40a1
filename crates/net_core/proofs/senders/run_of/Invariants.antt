use Rattle.std.proofs.Common.{◌≡◌, ◌+◌, length, take}
use Rattle.net_core.specs.Parts.{joined}
use Rattle.net_core.specs.inside.Runs.{in_runs}
use Rattle.net_core.proofs.senders.run_of.Given as goal

abbrev pub invariant-loop-index : goal.invariant-loop-index
invariant-loop-index l = l.rest + length (joined (take l.index (in_runs l.runs.items))) ≡ l.place
