use Rattle.std.proofs.Common.{◌∙◌, arith}
use Rattle.trace_text.proofs.Steps.{is_done}
use Rattle.trace_text.proofs.read.lines_of.Goals as goal

pub returns : goal.returns
returns c = λ n le next.
    let over = c.loop-left-test.false in
    c.loop-left.invariant.0 n next le
    ∙ is_done n c.loop-left.events c.loop-left.left c.loop-left.rest next (omega (arith, over))
