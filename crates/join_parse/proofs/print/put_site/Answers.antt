use Rattle.std.proofs.Common.{◌∙◌}
use Rattle.std.proofs.lemmas.Result.{on_ok_weaker}
use Rattle.join_parse.specs.inside.Printed.{of_place}
use Rattle.join_parse.proofs.print.put_site.Goals as goal

pub returns : goal.returns
returns c = on_ok_weaker c.put_place.result
    (λ p rest. c.in_ok-put_key.ensures (of_place c.args.site.now rest) ∙ p rest) c.put_place.ensures
