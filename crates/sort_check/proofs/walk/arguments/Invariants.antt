use Rattle.std.proofs.Common.{◌≡◌, drop}
use Rattle.sort_check.specs.inside.First.{first_of}
use Rattle.sort_check.specs.inside.Pairs.{pair_arguments}
use Rattle.sort_check.specs.inside.Beside.{kept}
use Rattle.sort_check.proofs.walk.arguments.Given as goal

abbrev pub invariant-loop-index : goal.invariant-loop-index
invariant-loop-index l =
    first_of (kept l.table).args l.least (pair_arguments (kept l.table) (drop l.index l.asked)
    (drop l.index l.args) (drop l.index l.names))
    ≡ first_of (kept l.table).args l.initial.least
    (pair_arguments (kept l.table) l.asked l.args l.names)
