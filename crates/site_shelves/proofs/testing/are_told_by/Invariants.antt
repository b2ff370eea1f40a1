use Rattle.std.proofs.Common.{◌≡◌, drop}
use Rattle.std.specs.List.{list_all}
use Rattle.site_shelves.specs.InCode.{is_told_by}
use Rattle.site_shelves.specs.inside.Index.{told_of}
use Rattle.site_shelves.proofs.testing.are_told_by.Given as goal

abbrev pub invariant-loop-group : goal.invariant-loop-group
invariant-loop-group l = list_all (is_told_by l.code) (drop l.group (told_of l.groups.groups))
    ≡ list_all (is_told_by l.code) (told_of l.groups.groups)
