use Rattle.std.proofs.Common.{◌≡◌, ◌++◌, drop}
use Rattle.chem_model.specs.Opening.{counts_of}
use Rattle.chem_plain.proofs.start.counts_of.Given as goal

abbrev pub invariant-loop-declaration : goal.invariant-loop-declaration
invariant-loop-declaration l = l.list ++ counts_of (drop l.declaration-index l.declaration-items)
    ≡ counts_of l.declaration-items
