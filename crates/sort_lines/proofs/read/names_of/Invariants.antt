use Rattle.std.proofs.Common.{◌≡◌, ◌++◌, drop}
use Rattle.sort_lines.specs.inside.Judging.{names_in}
use Rattle.sort_lines.proofs.read.names_of.Given as goal

abbrev pub invariant-loop-line : goal.invariant-loop-line
invariant-loop-line l = l.names ++ names_in (drop l.line-index l.all) ≡ names_in l.all
