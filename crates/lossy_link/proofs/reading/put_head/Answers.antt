use Rattle.std.proofs.Common.{◌++◌, ◌∷◌, [], ℕ, List, ap, ◌∙◌}
use Rattle.std.specs.Int.{w32, w64, to_be_bytes}
use Rattle.lossy_link.proofs.Exact.{put_four}
use Rattle.lossy_link.proofs.reading.put_head.Goals as goal

pub returns : goal.returns
returns c =
    put_four c.args.out.now _ _ _ _ (c.args.tag ∷ []) (to_be_bytes w32 c.args.from)
    (to_be_bytes w32 c.args.into) (to_be_bytes w64 c.args.number) c.in_ok-push.ensures.ok
    (c.in_ok-extend_from_slice.ensures.ok
    ∙ ap (λ (t : List ℕ). c.push.new.self ++ t) c.to_be_bytes.ensures)
    (c.in_ok-extend_from_slice-2.ensures.ok
    ∙ ap (λ (t : List ℕ). c.extend_from_slice.new.self ++ t) c.to_be_bytes-2.ensures)
    (c.in_ok-extend_from_slice-3.ensures.ok
    ∙ ap (λ (t : List ℕ). c.extend_from_slice-2.new.self ++ t) c.to_be_bytes-3.ensures)
