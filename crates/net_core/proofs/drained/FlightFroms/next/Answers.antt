use Rattle.std.proofs.Common.{◌∙◌, sym}
use Rattle.net_core.specs.inside.Runs.{spread}
use Rattle.net_core.proofs.Pairs.{next_of}
use Rattle.net_core.proofs.drained.FlightFroms.next.Goals as goal

pub returns : goal.returns
returns c =
    sym c.self.view_is
    ∙ next_of c.self.inside.flights.items c.pop_front.new.self.items
    (spread c.self.inside.senders.items) (spread c.pop_sender.new.runs.items) c.in_ok-flight.flight
    c.in_ok-from.from c.in_ok-flight.ensures.items c.in_ok-from.ensures
