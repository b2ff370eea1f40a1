use Rattle.std.proofs.Common.{refl, arith}
use Rattle.join_parse.specs.Begins.{ACount}
use Rattle.join_parse.proofs.Moves.{one-reads, stops, stops-at-end, count-step, count-step-large}
use Rattle.join_parse.proofs.Moves.{count-step-no}
use Rattle.join_parse.proofs.Placed.{number-spelled}
use Rattle.join_parse.proofs.cursor.count.Goals as goal

pub returns-in_default-clause-fails : goal.returns-in_default-clause-fails
returns-in_default-clause-fails c = rw c.refused.ensures
    (λ stack h. stops-at-end c.args.b _ ACount stack c.in_default.ensures.token refl)

pub returns-in_default-kind-clause-fails : goal.returns-in_default-kind-clause-fails
returns-in_default-kind-clause-fails c = rw c.refused-in_default-kind.ensures
    (λ stack h. stops c.args.b _ _ c.in-Some.token.now ACount stack c.in-Some.ensures.token
    (count-step-no c.args.b.second c.in-Some.token.now.kind c.in_default-kind.not-Number))

pub returns-then-count-gt255-clause-fails : goal.returns-then-count-gt255-clause-fails
returns-then-count-gt255-clause-fails c = rw c.refused-then-count-gt255.ensures
    (λ stack h. stops c.args.b _ _ c.in-Some.token.now ACount stack c.in-Some.ensures.token
    (count-step-large c.args.b.second c.in-Some.token.now.kind _ c.in-Number.is (omega arith)))

pub returns-clause-reads : goal.returns-clause-reads
returns-clause-reads c = one-reads c.args.b ACount
    c.args.tokens.now c.args.at c.in-Some.token.now c.in-Some.ensures.token c.in-Some.ensures.within
    (count-step c.args.b.second c.in-Some.token.now.kind _ c.in-Number.is (omega arith))

pub returns-clause-spelled : goal.returns-clause-spelled
returns-clause-spelled c = number-spelled c.args.tokens.now c.args.at c.in-Some.token.now
    c.in-Number.count c.in-Some.ensures.token c.in-Number.is
