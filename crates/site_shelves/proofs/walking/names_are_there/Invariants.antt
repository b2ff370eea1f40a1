use Rattle.std.proofs.Common.{◌≡◌, drop}
use Rattle.site_shelves.specs.inside.InTree.{names_stand}
use Rattle.site_shelves.proofs.walking.names_are_there.Given as goal

abbrev pub invariant-loop-name : goal.invariant-loop-name
invariant-loop-name l = names_stand l.tree (drop l.name-index l.names) ≡ names_stand l.tree l.names
