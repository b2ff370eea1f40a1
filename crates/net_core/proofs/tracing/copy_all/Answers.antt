use Rattle.std.proofs.Common.{◌∙◌, ◌++◌, sym, ap, take}
use Rattle.net_core.specs.Parts.{joined}
use Rattle.net_core.proofs.Members.{joined_more}
use Rattle.net_core.proofs.SiteReactions.{member_at, take_next}
use Rattle.net_core.proofs.tracing.copy_all.Goals as goal

pub loop-piece-preserved : goal.loop-piece-preserved
loop-piece-preserved c =
    let pieces = c.args.pieces.now in
    let i = c.loop-piece.piece-index in
    let piece = c.piece-item.result in
    c.in_ok-add_copies.ensures ∙ ap (λ xs. xs ++ piece) c.loop-piece.invariant
    ∙ sym (joined_more (take i pieces) piece)
    ∙ sym (ap joined
    (take_next pieces i piece (member_at pieces i piece c.loop-piece-test.true c.piece-item.is)))
