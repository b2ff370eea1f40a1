-- Of two faults, or of a list of them, the sooner one.
use Rattle.std.specs.Prelude.{◌==◌, ◌||◌, ◌&&◌, nat_lt, List, Option, Some, None, if◌then◌else◌}
use Rattle.std.specs.Prelude.{fold}
use Rattle.scope_check.specs.declared.fault.Fault.{Fault}
use Rattle.scope_check.specs.Order.{rank}

-- the sooner of what is kept and one more
abbrev pub sooner : Option Fault → Fault → Option Fault
sooner None g = Some g
sooner (Some f) g =
    if nat_lt g.place f.place || (g.place == f.place && nat_lt (rank g.kind) (rank f.kind))
    then Some g else Some f

abbrev pub first_of : Option Fault → List Fault → Option Fault
first_of o fs = fold sooner o fs
