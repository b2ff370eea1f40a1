use Rattle.std.proofs.Common.{ℕ, List, ◌++◌, ap, ◌∙◌}
use Rattle.std.specs.Int.{w32, w64, to_be_bytes}
use Rattle.wire_packet.proofs.Appends.{put_two}
use Rattle.wire_packet.proofs.writing.put_pair.Goals as goal

pub returns-clause-is : goal.returns-clause-is
returns-clause-is c = put_two c.args.out.now _ _ (to_be_bytes w32 c.args.site)
    (to_be_bytes w64 c.args.k) (c.in_ok-extend_from_slice.ensures.ok
    ∙ ap (λ (t : List ℕ). c.args.out.now ++ t) c.to_be_bytes.ensures)
    (c.in_ok-extend_from_slice-2.ensures.ok
    ∙ ap (λ (t : List ℕ). c.extend_from_slice.new.self ++ t) c.to_be_bytes-2.ensures)
