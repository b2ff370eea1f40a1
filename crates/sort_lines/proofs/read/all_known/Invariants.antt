use Rattle.std.proofs.Common.{◌≡◌, drop}
use Rattle.std.specs.List.{list_all}
use Rattle.sort_lines.specs.inside.Judging.{is_known}
use Rattle.sort_lines.proofs.read.all_known.Given as goal

abbrev pub invariant-loop-arg : goal.invariant-loop-arg
invariant-loop-arg l =
    list_all (is_known l.names) (drop l.arg-index l.arg-items)
    ≡ list_all (is_known l.names) l.arg-items
