use Rattle.std.proofs.Common.{◌≡◌, drop}
use Rattle.std.specs.Prelude.{zip}
use Rattle.status_words.specs.inside.Kept.{same_pairs}
use Rattle.status_words.proofs.sparse.same_words.Given as goal

abbrev pub invariant-loop-at : goal.invariant-loop-at
invariant-loop-at l =
    same_pairs (zip (drop l.at l.one) (drop l.at l.other)) ≡ same_pairs (zip l.one l.other)
