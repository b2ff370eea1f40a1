use Rattle.std.proofs.Common.{◌≡◌, ◌+◌, arith, subst}
use Rattle.std.proofs.lemmas.Bool.Decides.{nat_tests}
use Rattle.join_parse.specs.inside.Parsed.{SpellsNumber}
use Rattle.join_parse.proofs.Placed.{number-spelled}
use Rattle.join_parse.proofs.cursor.is_zero_at.Goals as goal

pub returns-in-Number-eq0-clause-spelled : goal.returns-in-Number-eq0-clause-spelled
returns-in-Number-eq0-clause-spelled c =
    let none : c.in-Number-eq0.field-0 ≡ 0 = grind (arith, nat_tests) in
    subst (λ n. SpellsNumber c.args.tokens.now c.args.at n (c.args.at + 1)) none
    (number-spelled c.args.tokens.now c.args.at c.in-Some.token.now c.in-Number-eq0.field-0
    c.in-Some.ensures.token c.in-Number-eq0.is)
