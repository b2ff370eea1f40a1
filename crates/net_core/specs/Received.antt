-- A packet that comes to a network from outside.
use Rattle.std.specs.Prelude.{◌≡◌, ℕ, ◌-◌, List, [], ◌∷◌, ◌++◌, None, length, replicate}
use Rattle.wire_packet.specs.declared.packet.Flight.{Flight}
use Rattle.net_laws.specs.Net.{Net}
use Rattle.net_core.specs.UnderWay.{with_packets}
use Rattle.net_core.specs.Acting.{Delivers}
use Rattle.net_core.specs.Laws.{IsLedFrom}
use Rattle.net_core.specs.Making.{Falls}
use Rattle.net_core.specs.Parts.{carried}
use Rattle.net_core.specs.Whole.{NetParts}

abbrev pub flight_to : ℕ → List ℕ → Flight
flight_to site bytes = record { target = site; bytes = bytes }

-- the network with this packet behind those under way
abbrev pub with_last : Net → ℕ → List ℕ → Net
with_last net site bytes = with_packets (net.packets ++ carried (flight_to site bytes) ∷ []) net

-- What a Deliver of the packet does where it is behind those under way: what goes on is from the
-- site. The network stands for the solutions for which it stood with the packet.
pub record HasReceived (old : NetParts) (site : ℕ) (bytes : List ℕ) (new : NetParts) : Type 0
  where
    pub delivers : Delivers (with_last old.net site bytes) (length old.net.packets) new.net
    pub code : new.code ≡ old.code
    pub events : new.events ≡ old.events
    pub leads : IsLedFrom (with_last old.net site bytes) None new.net old.code
    pub falls : Falls (with_last old.net site bytes) None new.net
    pub froms :
        new.froms
        ≡ old.froms ++ replicate (length new.net.packets - length old.net.packets) site
