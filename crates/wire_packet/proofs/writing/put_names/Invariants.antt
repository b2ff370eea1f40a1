use Rattle.std.proofs.Common.{◌≡◌, ◌++◌, drop}
use Rattle.std.specs.List.{flat_map}
use Rattle.chem_model.specs.Each.{Each}
use Rattle.wire_packet.specs.Spelling.{name_bytes}
use Rattle.wire_packet.specs.Allowed.{IsName}
use Rattle.wire_packet.proofs.writing.put_names.Given as goal

abbrev pub invariant-loop-name : goal.invariant-loop-name
invariant-loop-name l = (l.out ++ flat_map name_bytes (drop l.name-index l.names)
    ≡ l.initial.out ++ flat_map name_bytes l.names)
    × (Each IsName (drop l.name-index l.names) → Each IsName l.names)
