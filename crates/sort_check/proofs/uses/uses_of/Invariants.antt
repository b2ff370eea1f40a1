use Rattle.std.proofs.Common.{◌≤◌, length, drop}
use Rattle.sort_check.specs.inside.Told.{TellsAs}
use Rattle.sort_check.proofs.uses.uses_of.Given as goal

abbrev pub invariant-loop-left : goal.invariant-loop-left
invariant-loop-left l = record {
  within : l.left ≤ length l.lines;
  told : TellsAs (drop l.left l.lines) l.uses;
}

abbrev pub decreases-loop-left : goal.decreases-loop-left
decreases-loop-left l = l.left
