use Rattle.std.proofs.Common.{◌≡◌, ◌++◌, ◌∙◌, sym, ap}
use Rattle.std.specs.Prelude.{decimal}
use Rattle.std.proofs.lemmas.Result.{on_ok_weaker}
use Rattle.join_parse.specs.inside.Printed.{gap, spaced}
use Rattle.join_parse.proofs.print.put_number.Goals as goal

pub returns : goal.returns
returns c =
    let digits : c.as_bytes.result.now ≡ decimal c.args.value =
    c.as_bytes.ensures.value ∙ c.in_ok-digits.ensures.ok in
    on_ok_weaker c.put.result (λ put rest. ap (λ text. spaced text rest)
    (sym (put ∙ ap (λ word. c.args.out.now ++ gap c.args.out.now ++ word) digits))) c.put.ensures
