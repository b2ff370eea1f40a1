use Rattle.std.proofs.Common.{◌≡◌, ℕ}
use Rattle.std.specs.Prelude.{slice_index}
use Rattle.site_limits.proofs.known.widen.Given as goal

abbrev pub invariant-loop-at : goal.invariant-loop-at
invariant-loop-at l = (i : ℕ) → slice_index l.atoms.items i ≡ slice_index l.fn.atoms.items i
