-- Packets with the sites that sent them.
use Rattle.std.specs.Prelude.{ℕ, List, [], ◌∷◌}
use Rattle.wire_packet.specs.declared.packet.Flight.{Flight}
use Rattle.net_core.specs.declared.drained.FlightFrom.{FlightFrom}

-- member by member, as far as both lists go
abbrev pub paired : List Flight → List ℕ → List FlightFrom
paired [] froms = []
paired (f ∷ fs) [] = []
paired (f ∷ fs) (n ∷ ns) = record { from = n; flight = f } ∷ paired fs ns
