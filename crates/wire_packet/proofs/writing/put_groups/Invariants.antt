use Rattle.std.proofs.Common.{◌≡◌, ◌++◌, drop}
use Rattle.std.specs.List.{flat_map}
use Rattle.chem_model.specs.Each.{Each}
use Rattle.wire_packet.specs.Spelling.{group}
use Rattle.wire_packet.specs.Allowed.{IsGroupValue}
use Rattle.wire_packet.proofs.writing.put_groups.Given as goal

abbrev pub invariant-loop-one : goal.invariant-loop-one
invariant-loop-one l =
    (l.out ++ flat_map group (drop l.one-index l.groups) ≡ l.initial.out ++ flat_map group l.groups)
    × (Each IsGroupValue (drop l.one-index l.groups) → Each IsGroupValue l.groups)
