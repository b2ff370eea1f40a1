use Rattle.std.proofs.Common.{ap₂, ◌∙◌}
use Rattle.std.proofs.lemmas.Result.{IfOk-weaker}
use Rattle.clap.specs.Words.{with_rule}
use Rattle.join_words.proofs.line.plain_command.Goals as goal

pub returns : goal.returns
returns c =
    let mode = c.in_ok-arg.ensures.shape c.new.ensures.optional.1
    ∙ ap₂ with_rule c.bare_command.ensures c.new.ensures.rule in
    IfOk-weaker c.arg-2.result _ _
    (λ r h. h.shape c.new-2.ensures.optional.1 ∙ ap₂ with_rule mode c.new-2.ensures.rule)
    c.arg-2.ensures
