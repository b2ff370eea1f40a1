use Rattle.std.proofs.Common.{take}
use Rattle.sort_lines.specs.inside.Told.{told}
use Rattle.sort_lines.specs.inside.Judging.{AreSaid}
use Rattle.sort_lines.proofs.read.read_all.Given as goal

abbrev pub invariant-loop-line : goal.invariant-loop-line
invariant-loop-line l = AreSaid (told (take l.line-index l.lines)) l.all.items
