use Rattle.site_shelves.specs.inside.Index.{groups_of}
use Rattle.site_shelves.specs.inside.Covered.{IsCoveringAway}
use Rattle.site_shelves.proofs.covering.forget_keys.Given as goal

abbrev pub invariant-loop-group : goal.invariant-loop-group
invariant-loop-group l =
    IsCoveringAway l.loc l.covering l.spots.serials.items (groups_of l.groups.groups)
