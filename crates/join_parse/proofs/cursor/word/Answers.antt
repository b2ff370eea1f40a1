use Rattle.std.proofs.Common.{refl}
use Rattle.join_parse.specs.Begins.{AName}
use Rattle.join_parse.proofs.Moves.{one-reads, stops, stops-at-end, name-step, name-step-no}
use Rattle.join_parse.proofs.cursor.word.Goals as goal

pub returns-in_default-clause-fails : goal.returns-in_default-clause-fails
returns-in_default-clause-fails c = rw c.refused.ensures
    (λ stack h. stops-at-end c.args.b _ AName stack c.in_default.ensures.token refl)

pub returns-in_default-kind-clause-fails : goal.returns-in_default-kind-clause-fails
returns-in_default-kind-clause-fails c = rw c.refused-in_default-kind.ensures
    (λ stack h. stops c.args.b _ _ c.in-Some.token.now AName stack c.in-Some.ensures.token
    (name-step-no c.args.b.second c.in-Some.token.now.kind c.in_default-kind.not-Ident))

pub returns-clause-reads : goal.returns-clause-reads
returns-clause-reads c =
    one-reads c.args.b AName c.args.tokens.now c.args.at c.in-Some.token.now c.in-Some.ensures.token
    c.in-Some.ensures.within (name-step c.args.b.second c.in-Some.token.now.kind _ c.in-Ident.is)
