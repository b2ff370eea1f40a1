use Rattle.std.proofs.Common.{◌≡◌, ◌++◌, drop}
use Rattle.sort_check.specs.inside.Gathered.{seen_sorts}
use Rattle.sort_check.specs.inside.Told.{in_map}
use Rattle.sort_check.proofs.gather.seen_sorts.Given as goal

abbrev pub invariant-loop-decl : goal.invariant-loop-decl
invariant-loop-decl l = l.list ++ seen_sorts (in_map l.uses) (drop l.decl-index l.seen)
    ≡ seen_sorts (in_map l.uses) l.seen
