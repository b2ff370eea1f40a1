use Rattle.std.proofs.Common.{ap, ap₂, ◌∙◌}
use Rattle.std.proofs.lemmas.Result.{IfOk-weaker}
use Rattle.clap.specs.Words.{with_rule}
use Rattle.join_words.specs.inside.Command.{options_app}
use Rattle.join_words.proofs.line.line_command.Goals as goal

pub returns : goal.returns
returns c =
    let options = c.in_ok-with_options.ensures ∙ ap options_app c.in_ok-plain_command.ensures in
    IfOk-weaker c.arg.result _ _
    (λ r h. h.shape c.log_flag.ensures.local ∙ ap₂ with_rule options c.log_flag.ensures.rule)
    c.arg.ensures
