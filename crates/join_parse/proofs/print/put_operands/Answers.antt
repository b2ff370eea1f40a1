use Rattle.std.proofs.Common.{◌∷◌, ◌∙◌}
use Rattle.std.proofs.lemmas.Result.{on_ok_weaker}
use Rattle.join_lex.specs.declared.token.Sign.TheVariants as sign
use Rattle.join_parse.specs.Terminals.{a_sign, argument}
use Rattle.join_parse.proofs.print.put_operands.Goals as goal

pub returns : goal.returns
returns c =
    on_ok_weaker c.put_arg-2.result
    (λ p rest. c.in_ok-put_sign.ensures
    (argument c.args.left.now ∷ a_sign sign.Comma ∷ argument c.args.right.now ∷ rest)
    ∙ c.in_ok-put_arg.ensures (a_sign sign.Comma ∷ argument c.args.right.now ∷ rest)
    ∙ c.in_ok-put_sign-2.ensures (argument c.args.right.now ∷ rest) ∙ p rest)
    c.put_arg-2.ensures
