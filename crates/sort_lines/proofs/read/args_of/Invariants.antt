use Rattle.std.proofs.Common.{◌≡◌, take, map}
use Rattle.sort_lines.specs.Faults.{sort_named}
use Rattle.sort_lines.proofs.read.args_of.Given as goal

abbrev pub invariant-loop-name : goal.invariant-loop-name
invariant-loop-name l = l.args ≡ map (sort_named l.names) (take l.name-index l.name-items)
