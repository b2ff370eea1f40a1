use Rattle.std.proofs.Common.{◌≡◌, drop}
use Rattle.std.specs.List.{list_all}
use Rattle.site_solution.specs.Apart.{are_separate}
use Rattle.site_shelves.specs.inside.Index.{told_of}
use Rattle.site_solution.proofs.apart.is_separate.Given as goal

abbrev pub invariant-loop-group : goal.invariant-loop-group
invariant-loop-group l = list_all (are_separate l.told) (drop l.group (told_of l.groups.groups))
    ≡ list_all (are_separate l.told) (told_of l.groups.groups)
