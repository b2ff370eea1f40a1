use Rattle.std.proofs.Common.{◌≡◌, drop}
use Rattle.guard_compile.specs.Written.{with_bits, mask_of}
use Rattle.guard_compile.proofs.mask.mask.Given as goal

abbrev pub invariant-loop-channel : goal.invariant-loop-channel
invariant-loop-channel l =
    with_bits l.words (drop l.channel-index l.channel-items) ≡ mask_of l.count l.channel-items
