use Rattle.std.proofs.Common.{◌≡◌, ◌++◌, drop}
use Rattle.sort_check.specs.inside.Gathered.{sorts_of}
use Rattle.sort_check.specs.inside.Told.{in_map}
use Rattle.sort_check.proofs.gather.channel_sorts.Given as goal

abbrev pub invariant-loop-text : goal.invariant-loop-text
invariant-loop-text l = l.list ++ sorts_of (in_map l.uses) (drop l.text-index l.spell)
    ≡ sorts_of (in_map l.uses) l.spell
