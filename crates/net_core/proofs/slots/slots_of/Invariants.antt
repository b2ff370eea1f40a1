use Rattle.std.proofs.Common.{◌≡◌, map}
use Rattle.net_core.specs.inside.Slots.{slot_of}
use Rattle.net_core.proofs.slots.slots_of.Given as goal

abbrev pub invariant-loop-site : goal.invariant-loop-site
invariant-loop-site l = l.slots.items ≡ map slot_of l.yielded
