use Rattle.std.proofs.Common.{ap, ◌≡◌, ◌∙◌, true, codes}
use Rattle.clap.specs.Words.{app_of, new_app}
use Rattle.clap.specs.Simple.{app_of_fields, on_top}
use Rattle.join_words.proofs.line.bare_command.Goals as goal

pub returns : goal.returns
returns c =
    let named : app_of c.no_binary_name.result
    ≡ on_top (λ s. record s { no_binary_name = true }) (new_app (codes "join")) =
    ap app_of_fields c.no_binary_name.ensures
    ∙ ap (on_top (λ s. record s { no_binary_name = true })) c.new.ensures.app in
    ap app_of_fields c.disable_help_flag.ensures
    ∙ ap (on_top (λ s. record s { disable_help_flag = true })) named
