use Rattle.std.proofs.Common.{ℕ, List}
use Rattle.net_laws.specs.Site.{Group}
use Rattle.site_shelves.specs.inside.Covered.{IsCovering}
use Rattle.site_shelves.proofs.covering.learn.Given as goal

abbrev pub invariant-loop-group : goal.invariant-loop-group
invariant-loop-group l =
    (ss : List ℕ) (gs : List Group) → IsCovering l.fn.covering ss gs → IsCovering l.covering ss gs
