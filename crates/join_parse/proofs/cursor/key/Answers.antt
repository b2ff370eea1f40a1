use Rattle.std.proofs.Common.{sym}
use Rattle.join_parse.proofs.Moves.{key-reads, key-stops}
use Rattle.join_parse.proofs.cursor.key.Goals as goal

pub returns-then-is_key_at-clause-reads : goal.returns-then-is_key_at-clause-reads
returns-then-is_key_at-clause-reads c =
    key-reads c.args.b c.args.key c.args.tokens.now c.args.at (sym c.if-is_key_at.ensures.is)
    c.if-is_key_at.ensures.within

pub returns-else-is_key_at-clause-fails : goal.returns-else-is_key_at-clause-fails
returns-else-is_key_at-clause-fails c = rw c.refused.ensures
    (λ stack h. key-stops c.args.b c.args.key _ (sym c.if-is_key_at.ensures.is) stack)
