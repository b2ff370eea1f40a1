use Rattle.std.proofs.Common.{◌≡◌, drop, []}
use Rattle.scope_check.specs.inside.Order.{first_of}
use Rattle.scope_check.specs.inside.Clashes.{parameter_repeats}
use Rattle.scope_check.proofs.clashes.repeated_parameters.Given as goal

abbrev pub invariant-loop-pat : goal.invariant-loop-pat
invariant-loop-pat l = first_of l.least (parameter_repeats l.so_far (drop l.pat-index l.pats))
    ≡ first_of l.initial.least (parameter_repeats [] l.pats)
