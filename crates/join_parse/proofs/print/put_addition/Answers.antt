use Rattle.std.proofs.Common.{◌∙◌}
use Rattle.std.proofs.lemmas.Result.{on_ok_weaker}
use Rattle.join_parse.specs.Grammar.{operands, closing_name}
use Rattle.join_parse.proofs.print.put_addition.Goals as goal

pub returns : goal.returns
returns c =
    on_ok_weaker c.put_closing_name.result
    (λ p rest. c.in_ok-put_key.ensures
    (operands c.args.left.now c.args.right.now (closing_name c.args.cont.now rest))
    ∙ c.in_ok-put_operands.ensures (closing_name c.args.cont.now rest) ∙ p rest)
    c.put_closing_name.ensures
