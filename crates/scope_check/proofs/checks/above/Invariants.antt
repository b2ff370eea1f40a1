use Rattle.std.proofs.Common.{◌≡◌, drop}
use Rattle.scope_check.specs.inside.Order.{first_of}
use Rattle.scope_check.specs.inside.FaultList.{many}
use Rattle.scope_check.proofs.checks.above.Given as goal

abbrev pub invariant-loop-number : goal.invariant-loop-number
invariant-loop-number l = first_of l.least (many (drop l.number l.sites))
    ≡ first_of l.initial.least (many (drop l.limit l.sites))
