use Rattle.site_shelves.specs.inside.Index.{groups_of}
use Rattle.site_shelves.proofs.FiredBy.{AreLeft}
use Rattle.site_shelves.proofs.least_guard.first_fired.Given as goal

abbrev pub invariant-loop-key : goal.invariant-loop-key
invariant-loop-key l =
    AreLeft l.code l.tree (groups_of l.groups.groups) l.spots.serials.items l.keys l.key-iterator
