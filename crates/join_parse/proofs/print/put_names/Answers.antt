use Rattle.std.proofs.Common.{◌∷◌}
use Rattle.join_lex.specs.declared.token.Sign.TheVariants as sign
use Rattle.join_parse.specs.Terminals.{a_sign, named}
use Rattle.join_parse.specs.Grammar.{names}
use Rattle.join_parse.proofs.LeftToPrint.{left_names}
use Rattle.join_parse.proofs.Prints.{member-prints, names-law}
use Rattle.join_parse.proofs.print.put_names.Goals as goal

pub loop-word-preserved : goal.loop-word-preserved
loop-word-preserved c =
    member-prints left_names (λ w rest. named w ∷ rest) (a_sign sign.Comma) names-law
    (names c.as_slice-word-items.result.now)
    c.args.out.now c.loop-word.out c.put_sign_between.new.out c.put_word.new.out c.loop-word.first
    c.as_slice-word-items.result.now c.loop-word.word-index c.word-item.result c.loop-word-test.true
    c.word-item.is c.loop-word.invariant c.in_ok-put_sign_between.ensures c.in_ok-put_word.ensures
