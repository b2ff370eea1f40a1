use Rattle.std.proofs.Common.{rules, ◌≡◌, IfOk}
use Rattle.sort_lines.specs.Contents.{kinds}
use Rattle.sort_lines.specs.inside.Reading.{content_in, IsSaid}
use Rattle.sort_lines.proofs.Decided.{said_of, nothing_said, if_ok}
use Rattle.sort_lines.proofs.content.said.Goals as goal

pub returns-in-Ok : goal.returns-in-Ok
returns-in-Ok c =
    let t = c.in-Ok.tokens in
    let made : IfOk c.content_of.result (λ o. o ≡ content_in (kinds t.list)) = search rules in
    if_ok (λ o. o ≡ content_in (kinds t.list)) (IsSaid c.args.text.now)
    c.content_of.result (λ o e. said_of c.args.text.now t o c.in-Ok.ensures.tokens e) made

pub returns-in-Err-Refused : goal.returns-in-Err-Refused
returns-in-Err-Refused c =
    nothing_said c.args.text.now _ c.requires (λ q. cc) c.in-Err-Refused.ensures.reads
