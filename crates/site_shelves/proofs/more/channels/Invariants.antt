use Rattle.std.proofs.Common.{◌≡◌, ◌+◌, drop}
use Rattle.site_shelves.specs.inside.New.{widths}
use Rattle.site_shelves.proofs.more.channels.Given as goal

abbrev pub invariant-loop-group : goal.invariant-loop-group
invariant-loop-group l = l.count + widths (drop l.group-index l.groups) ≡ widths l.groups
