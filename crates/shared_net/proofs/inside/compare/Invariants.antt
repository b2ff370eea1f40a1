use Rattle.std.proofs.Common.{drop, map}
use Rattle.shared_net.specs.Agrees.{row_of}
use Rattle.shared_net.proofs.Going.{IsGoing}
use Rattle.shared_net.proofs.inside.compare.Given as goal

abbrev pub invariant-loop-pass : goal.invariant-loop-pass
invariant-loop-pass g l = IsGoing l.journal (map row_of l.pass-items)
    (map row_of (drop l.pass-index l.pass-items)) l.slots.items
