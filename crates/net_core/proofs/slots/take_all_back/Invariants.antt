use Rattle.std.proofs.Common.{◌≡◌, ◌++◌}
use Rattle.net_core.specs.inside.Runs.{spread}
use Rattle.net_core.specs.inside.Slots.{AreBack, froms_of}
use Rattle.net_core.proofs.slots.take_all_back.Given as goal

abbrev pub invariant-loop-slot : goal.invariant-loop-slot
invariant-loop-slot l = record {
  back : AreBack l.yielded l.initial.parts l.initial.journal l.parts l.journal;
  sent : spread l.senders.items ≡ spread l.initial.senders.items ++ froms_of l.yielded;
}
