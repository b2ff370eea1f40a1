use Rattle.net_core.specs.inside.Runs.{spread}
use Rattle.net_core.specs.inside.Turns.{AreThrough}
use Rattle.net_core.proofs.turns.turn_all.Given as goal

abbrev pub invariant-loop-number : goal.invariant-loop-number
invariant-loop-number l = AreThrough l.turns.code.now l.turns.quota l.turns.flights.now
    l.initial.parts (record {
      events = l.initial.journal;
      froms = spread l.initial.senders.items;
      idle = l.initial.idle.items;
    }) l.number l.parts (record {
      events = l.journal;
      froms = spread l.senders.items;
      idle = l.idle.items;
    })
