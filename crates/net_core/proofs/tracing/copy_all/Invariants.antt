use Rattle.std.proofs.Common.{◌≡◌, take}
use Rattle.net_core.specs.Parts.{joined}
use Rattle.net_core.proofs.tracing.copy_all.Given as goal

abbrev pub invariant-loop-piece : goal.invariant-loop-piece
invariant-loop-piece l = l.all ≡ joined (take l.piece-index l.pieces)
