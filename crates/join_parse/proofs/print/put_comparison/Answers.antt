use Rattle.std.proofs.Common.{◌∷◌, ◌∙◌}
use Rattle.std.proofs.lemmas.Result.{on_ok_weaker}
use Rattle.join_lex.specs.declared.token.Sign.TheVariants as sign
use Rattle.join_parse.specs.Terminals.{a_sign, named}
use Rattle.join_parse.specs.Grammar.{operands, closing_name}
use Rattle.join_parse.proofs.print.put_comparison.Goals as goal

pub returns : goal.returns
returns c =
    on_ok_weaker c.put_closing_name.result
    (λ p rest. c.in_ok-put_key.ensures (operands c.args.left.now c.args.right.now
    (a_sign sign.Comma ∷ named c.args.yes.now ∷ closing_name c.args.no.now rest))
    ∙ c.in_ok-put_operands.ensures
    (a_sign sign.Comma ∷ named c.args.yes.now ∷ closing_name c.args.no.now rest)
    ∙ c.in_ok-put_sign.ensures (named c.args.yes.now ∷ closing_name c.args.no.now rest)
    ∙ c.in_ok-put_word.ensures (closing_name c.args.no.now rest) ∙ p rest)
    c.put_closing_name.ensures
