use Rattle.std.proofs.Common.{◌≡◌, ◌+◌, drop}
use Rattle.status_words.specs.inside.Kept.{place_in}
use Rattle.status_words.proofs.sparse.place_in.Given as goal

abbrev pub invariant-loop-at : goal.invariant-loop-at
invariant-loop-at l = place_in l.words l.place ≡ l.at + place_in (drop l.at l.words) l.place
