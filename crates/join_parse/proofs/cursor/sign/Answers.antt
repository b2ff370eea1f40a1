use Rattle.std.proofs.Common.{sym}
use Rattle.join_parse.proofs.Moves.{sign-reads, sign-stops}
use Rattle.join_parse.proofs.cursor.sign.Goals as goal

pub returns-then-is_sign_at-clause-reads : goal.returns-then-is_sign_at-clause-reads
returns-then-is_sign_at-clause-reads c =
    sign-reads c.args.b c.args.sign c.args.tokens.now c.args.at (sym c.if-is_sign_at.ensures.is)
    c.if-is_sign_at.ensures.within

pub returns-else-is_sign_at-clause-fails : goal.returns-else-is_sign_at-clause-fails
returns-else-is_sign_at-clause-fails c = rw c.refused.ensures
    (λ stack h. sign-stops c.args.b c.args.sign _ (sym c.if-is_sign_at.ensures.is) stack)
