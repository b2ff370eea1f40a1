use Rattle.std.proofs.Common.{◌∷◌, ◌∙◌}
use Rattle.std.proofs.lemmas.Result.{on_ok_weaker}
use Rattle.join_lex.specs.declared.token.Sign.TheVariants as sign
use Rattle.join_parse.specs.Terminals.{a_sign, named}
use Rattle.join_parse.specs.Grammar.{nowhere, unplaced}
use Rattle.join_parse.proofs.print.put_declaration.Goals as goal

pub returns : goal.returns
returns c =
    let number = rw c.from.ensures at c.in_ok-put_number.ensures in
    on_ok_weaker c.put_sign-2.result
    (λ p rest. c.in_ok-put_key.ensures (named c.args.declaration.now.name ∷ a_sign sign.Slash
    ∷ unplaced nowhere c.args.declaration.now.count (a_sign sign.Semicolon ∷ rest))
    ∙ c.in_ok-put_word.ensures (a_sign sign.Slash
    ∷ unplaced nowhere c.args.declaration.now.count (a_sign sign.Semicolon ∷ rest))
    ∙ c.in_ok-put_sign.ensures
    (unplaced nowhere c.args.declaration.now.count (a_sign sign.Semicolon ∷ rest))
    ∙ number (a_sign sign.Semicolon ∷ rest) ∙ p rest)
    c.put_sign-2.ensures
