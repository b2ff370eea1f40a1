use Rattle.std.proofs.Common.{◌≡◌, drop}
use Rattle.site_shelves.specs.Held.{in_groups_of}
use Rattle.site_shelves.specs.inside.Index.{groups_of}
use Rattle.site_shelves.proofs.walking.in_groups.Given as goal

abbrev pub invariant-loop-group : goal.invariant-loop-group
invariant-loop-group l = in_groups_of l.atom (drop l.group (groups_of l.groups.groups))
    ≡ in_groups_of l.atom (groups_of l.groups.groups)
