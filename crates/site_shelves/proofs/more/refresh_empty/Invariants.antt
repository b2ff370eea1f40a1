use Rattle.site_shelves.specs.inside.Index.{groups_of}
use Rattle.site_shelves.specs.inside.Covered.{IsCovering}
use Rattle.site_shelves.proofs.more.refresh_empty.Given as goal

abbrev pub invariant-loop-chan : goal.invariant-loop-chan
invariant-loop-chan l = IsCovering l.covering l.spots.serials.items (groups_of l.groups.groups)
