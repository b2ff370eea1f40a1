-- A network with other messages under way.
use Rattle.std.specs.Prelude.{List}
use Rattle.net_laws.specs.Net.{Addressed, Net}

abbrev pub with_packets : List Addressed → Net → Net
with_packets packets net = record net { packets = packets }
