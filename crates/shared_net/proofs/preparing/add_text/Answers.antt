use Rattle.std.proofs.Common.{ap, ◌∙◌}
use Rattle.std.specs.Prelude.{slice_set}
use Rattle.std.proofs.lemmas.Option.{slice_get-get_or}
use Rattle.shared_net.proofs.Results.{on_ok}
use Rattle.shared_net.proofs.Opening.{text_put, text_past}
use Rattle.shared_net.proofs.preparing.add_text.Goals as goal

pub returns-then-at-mails : goal.returns-then-at-mails
returns-then-at-mails c = text_past c.args.target c.args.text c.args.mails.now c.if-at-mails.true

pub returns : goal.returns
returns c =
    on_ok _ _ c.push.result
    (λ e. ap (slice_set c.args.mails.now c.args.target) e
    ∙ text_put c.args.target c.args.text c.args.mails.now _
    (slice_get-get_or c.args.mails.now c.args.target c.index-mails-at.result c.if-at-mails.false))
    c.push.ensures.ok
