use Rattle.std.proofs.Common.{◌≡◌, ◌++◌, drop}
use Rattle.std.specs.List.{flat_map}
use Rattle.chem_model.specs.Each.{Each}
use Rattle.wire_packet.specs.Spelling.{request}
use Rattle.wire_packet.specs.Allowed.{IsRequestValue}
use Rattle.wire_packet.proofs.writing.put_requests.Given as goal

abbrev pub invariant-loop-one : goal.invariant-loop-one
invariant-loop-one l = (l.out ++ flat_map request (drop l.one-index l.requests)
    ≡ l.initial.out ++ flat_map request l.requests)
    × (Each IsRequestValue (drop l.one-index l.requests) → Each IsRequestValue l.requests)
