use Rattle.std.proofs.Common.{◌≡◌, drop}
use Rattle.chem_commit.specs.inside.Parts.{place_from}
use Rattle.chem_commit.proofs.near.oldest_place.Given as goal

abbrev pub invariant-loop-index : goal.invariant-loop-index
invariant-loop-index l =
    place_from l.id l.index (drop l.index l.atom-items) ≡ place_from l.id 0 l.atom-items
