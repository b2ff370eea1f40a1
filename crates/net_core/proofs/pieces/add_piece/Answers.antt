use Rattle.std.proofs.Common.{◌∙◌, ◌++◌, ◌∷◌, [], ap}
use Rattle.net_core.specs.Parts.{joined}
use Rattle.net_core.proofs.Members.{pushed, joined_more}
use Rattle.net_core.proofs.pieces.add_piece.Goals as goal

pub returns-then-not-is_empty : goal.returns-then-not-is_empty
returns-then-not-is_empty g c =
    ap joined
    (pushed c.push.result c.push.new.self.items (c.args.pieces.now.items ++ c.args.piece ∷ [])
    c.args.pieces.now.items c.push.ensures.items (c.push.ensures.succeeds c.requires))
    ∙ joined_more c.args.pieces.now.items c.args.piece
