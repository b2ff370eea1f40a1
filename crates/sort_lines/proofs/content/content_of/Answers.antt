use Rattle.std.proofs.Common.{arith, ◌≡◌, ◌-◌, take, drop, length, ◌∙◌}
use Rattle.sort_lines.specs.Contents.{kinds}
use Rattle.sort_lines.specs.inside.Reading.{three_in, content_in}
use Rattle.sort_lines.proofs.Decided.{few_say, three_rest, if_ok}
use Rattle.sort_lines.proofs.content.content_of.Goals as goal

pub returns-then-tokens-lt3 : goal.returns-then-tokens-lt3
returns-then-tokens-lt3 c = few_say c.args.tokens.now (omega (arith, c.if-tokens-lt3.true))

pub returns : goal.returns
returns c =
    let ts = c.args.tokens.now in
    let x = c.index-tokens-0.result in
    let y = c.index-tokens-1.result in
    let z = c.index-tokens-2.result in
    let same = three_rest ts x y z (omega (arith, c.if-tokens-lt3.false))
    c.index-tokens-0.is c.index-tokens-1.is c.index-tokens-2.is in
    if_ok (λ said. said ≡ three_in x.kind y.kind z.kind (kinds (take (length ts - 3) (drop 3 ts))))
    (λ said. said ≡ content_in (kinds ts)) c.three.result (λ o e. e ∙ same) c.three.ensures
