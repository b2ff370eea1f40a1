use Rattle.std.proofs.Common.{◌≡◌, ◌-◌, ◌∙◌, refl, arith}
use Rattle.std.proofs.lemmas.Result.{err_from_is_err_and}
use Rattle.trace_text.proofs.Steps.{steps, ends}
use Rattle.trace_text.proofs.read.more_lines.Goals as goal

pub loop-init : goal.loop-init
loop-init c =
    (λ n total next le up. let all : total - 0 ≡ total = omega arith in rw all refl, omega arith)

pub returns-in_err-event-clause-reads : goal.returns-in_err-event-clause-reads
returns-in_err-event-clause-reads c =
    let p = err_from_is_err_and c.from_residual.result c.from_residual.ensures.1 in
    let shorter = c.loop.invariant.1 in
    let more = c.loop-test.true in
    rw (p.1, p.2) (λ n total next le up. rw (c.loop.invariant.0 n total next le up)
    (ends n c.loop.events total c.loop.counter c.loop.rest.now c.in_err-event.field-0.0 next
    (omega (arith, more, up)) (c.in_err-event.ensures.reads n (omega (arith, le, shorter)))))

pub loop-preserved : goal.loop-preserved
loop-preserved c =
    let shorter = c.loop.invariant.1 in
    let more = c.loop-test.true in
    rw c.in_ok-push.ensures.ok (
      λ n total next le up. c.loop.invariant.0 n total next le up
          ∙ steps n c.loop.events total
          c.loop.counter c.loop.rest.now c.in_ok-event.later.now c.in_ok-event.event next
          (omega (arith, more, up)) (c.in_ok-event.ensures.reads n (omega (arith, le, shorter))),
      omega (arith, shorter, c.in_ok-event.ensures.shorter),
    )
