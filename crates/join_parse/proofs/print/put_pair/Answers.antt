use Rattle.std.proofs.Common.{◌∷◌, ◌∙◌}
use Rattle.std.proofs.lemmas.Result.{on_ok_weaker}
use Rattle.join_lex.specs.declared.token.Sign.TheVariants as sign
use Rattle.join_parse.specs.Terminals.{a_sign, named}
use Rattle.join_parse.proofs.print.put_pair.Goals as goal

pub returns : goal.returns
returns c =
    on_ok_weaker c.put_sign-3.result
    (λ p rest. c.in_ok-put_sign.ensures (named c.args.one.now ∷ a_sign sign.Comma
    ∷ named c.args.other.now ∷ a_sign sign.ParenRight ∷ rest)
    ∙ c.in_ok-put_word.ensures
    (a_sign sign.Comma ∷ named c.args.other.now ∷ a_sign sign.ParenRight ∷ rest)
    ∙ c.in_ok-put_sign-2.ensures (named c.args.other.now ∷ a_sign sign.ParenRight ∷ rest)
    ∙ c.in_ok-put_word-2.ensures (a_sign sign.ParenRight ∷ rest) ∙ p rest)
    c.put_sign-3.ensures
