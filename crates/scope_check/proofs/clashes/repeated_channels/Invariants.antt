use Rattle.std.proofs.Common.{◌≡◌, drop, []}
use Rattle.scope_check.specs.inside.Order.{first_of}
use Rattle.scope_check.specs.inside.Clashes.{channel_repeats}
use Rattle.scope_check.proofs.clashes.repeated_channels.Given as goal

abbrev pub invariant-loop-pat : goal.invariant-loop-pat
invariant-loop-pat l = first_of l.least (channel_repeats l.so_far (drop l.pat-index l.pats))
    ≡ first_of l.initial.least (channel_repeats [] l.pats)
