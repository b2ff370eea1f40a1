use Rattle.std.proofs.Common.{ap, ap₂, ◌∙◌}
use Rattle.std.proofs.lemmas.Result.{IfOk-weaker}
use Rattle.clap.specs.Words.{app_of, with_rule}
use Rattle.join_words.proofs.line.with_options.Goals as goal

pub returns : goal.returns
returns c =
    let budget = c.in_ok-arg.ensures.shape c.valued_option.ensures.local
    ∙ ap (with_rule (app_of c.args.command)) c.valued_option.ensures.rule in
    let workers = c.in_ok-arg-2.ensures.shape c.valued_option-2.ensures.local
    ∙ ap₂ with_rule budget c.valued_option-2.ensures.rule in
    let by = c.in_ok-arg-3.ensures.shape c.valued_option-3.ensures.local
    ∙ ap₂ with_rule workers c.valued_option-3.ensures.rule in
    IfOk-weaker c.arg-4.result _ _ (λ r h.
    h.shape c.valued_option-4.ensures.local ∙ ap₂ with_rule by c.valued_option-4.ensures.rule)
    c.arg-4.ensures
