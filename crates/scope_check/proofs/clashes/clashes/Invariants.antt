use Rattle.std.proofs.Common.{◌≡◌, drop, []}
use Rattle.scope_check.specs.inside.Order.{first_of}
use Rattle.scope_check.specs.inside.Clashes.{clashes_in}
use Rattle.scope_check.proofs.clashes.clashes.Given as goal

abbrev pub invariant-loop-d : goal.invariant-loop-d
invariant-loop-d l = first_of l.least (clashes_in l.so_far (drop l.d-index l.names))
    ≡ first_of l.initial.least (clashes_in [] l.names)
