use Rattle.std.proofs.Common.{◌∙◌}
use Rattle.std.proofs.lemmas.Result.{on_ok_weaker}
use Rattle.join_parse.specs.Grammar.{pair}
use Rattle.join_parse.proofs.print.put_request.Goals as goal

pub returns : goal.returns
returns c =
    on_ok_weaker c.put_pair.result
    (λ p rest. c.in_ok-put_key.ensures (pair c.args.one.now c.args.other.now rest) ∙ p rest)
    c.put_pair.ensures
