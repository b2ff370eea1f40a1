use Rattle.std.proofs.Common.{◌≡◌, drop}
use Rattle.scope_check.specs.inside.Naming.{name_all}
use Rattle.scope_check.proofs.naming.name_all.Given as goal

abbrev pub invariant-loop-d : goal.invariant-loop-d
invariant-loop-d l = name_all l.spell l.table (drop l.d-index l.names)
    ≡ name_all l.initial.spell l.initial.table l.names
