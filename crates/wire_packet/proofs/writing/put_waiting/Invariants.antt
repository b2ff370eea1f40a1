use Rattle.std.proofs.Common.{◌≡◌, ◌++◌, drop}
use Rattle.std.specs.List.{flat_map}
use Rattle.chem_model.specs.Each.{Each}
use Rattle.wire_packet.specs.Spelling.{waiting_message}
use Rattle.wire_packet.specs.Allowed.{IsWaitingValue}
use Rattle.wire_packet.proofs.writing.put_waiting.Given as goal

abbrev pub invariant-loop-one : goal.invariant-loop-one
invariant-loop-one l = (l.out ++ flat_map waiting_message (drop l.one-index l.waiting)
    ≡ l.initial.out ++ flat_map waiting_message l.waiting)
    × (Each IsWaitingValue (drop l.one-index l.waiting) → Each IsWaitingValue l.waiting)
