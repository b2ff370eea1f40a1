use Rattle.std.proofs.Common.{◌∷◌, ◌∙◌}
use Rattle.std.proofs.lemmas.Result.{on_ok_weaker}
use Rattle.join_lex.specs.declared.token.Sign.TheVariants as sign
use Rattle.join_parse.specs.Terminals.{a_sign}
use Rattle.join_parse.specs.Grammar.{arguments}
use Rattle.join_parse.proofs.print.put_message.Goals as goal

pub returns : goal.returns
returns c =
    on_ok_weaker c.put_args.result
    (λ p rest. c.in_ok-put_word.ensures (a_sign sign.ParenLeft ∷ arguments c.args.list.now rest)
    ∙ c.in_ok-put_sign.ensures (arguments c.args.list.now rest) ∙ p rest)
    c.put_args.ensures
