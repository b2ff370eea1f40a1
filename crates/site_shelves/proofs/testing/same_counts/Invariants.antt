use Rattle.std.proofs.Common.{◌≡◌, drop}
use Rattle.std.specs.Prelude.{zip}
use Rattle.site_shelves.specs.InCode.{same_pairs}
use Rattle.site_shelves.proofs.testing.same_counts.Given as goal

abbrev pub invariant-loop-at : goal.invariant-loop-at
invariant-loop-at l =
    same_pairs (zip (drop l.at l.one) (drop l.at l.other)) ≡ same_pairs (zip l.one l.other)
