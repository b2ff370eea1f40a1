-- A network whose packets are handed out.
use Rattle.std.specs.Prelude.{◌≡◌, List, [], map}
use Rattle.chem_model.specs.Each.{Each}
use Rattle.net_core.specs.UnderWay.{with_packets}
use Rattle.net_core.specs.declared.drained.FlightFrom.{FlightFrom}
use Rattle.net_core.specs.Parts.{carried, IsMessageFlight}
use Rattle.net_core.specs.Whole.{NetParts}

-- these are the packets that were under way, with the sites that sent them; each is a message's
-- spelling; none is under way any more, and all else stays
pub record AreHandedOut (old : NetParts) (flights : List FlightFrom) (new : NetParts) : Type 0
  where
    pub carried_are : map (λ (x : FlightFrom). carried x.flight) flights ≡ old.net.packets
    pub froms_are : map (λ (x : FlightFrom). x.from) flights ≡ old.froms
    pub spelled : Each (λ (x : FlightFrom). IsMessageFlight x.flight) flights
    pub left : new ≡ record old { net = with_packets [] old.net; froms = [] }
