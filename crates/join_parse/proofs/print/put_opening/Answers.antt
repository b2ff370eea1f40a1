use Rattle.std.proofs.Common.{◌≡◌, ◌∷◌, ◌∙◌, true, sym, ap, arith}
use Rattle.std.proofs.lemmas.Bool.Decides.{nat_tests}
use Rattle.std.proofs.lemmas.Result.{on_ok_weaker}
use Rattle.join_lex.specs.declared.token.Sign.TheVariants as sign
use Rattle.join_parse.specs.Terminals.{a_sign}
use Rattle.join_parse.specs.Grammar.{nowhere, unplaced, is_second}
use Rattle.join_parse.specs.inside.Printed.{spaced}
use Rattle.join_parse.proofs.print.put_opening.Goals as goal

pub returns : goal.returns
returns c =
    let second : is_second c.args.version ≡ true = grind (arith, nat_tests) in
    rw second
    (on_ok_weaker c.put_sign.result
    (λ p rest. ap (λ text. spaced text (unplaced nowhere 2 (a_sign sign.Semicolon ∷ rest)))
    (sym c.in_ok-put.ensures)
    ∙ c.in_ok-put_number.ensures (a_sign sign.Semicolon ∷ rest) ∙ p rest)
    c.put_sign.ensures)
