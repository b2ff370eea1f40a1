use Rattle.sort_lines.proofs.Declared.{said_more}
use Rattle.sort_lines.proofs.read.read_all.Goals as goal

pub loop-line-preserved : goal.loop-line-preserved
loop-line-preserved c =
    said_more c.args.lines.now c.loop-line.line-index _
    c.loop-line.all.items c.push.new.self.items c.in_ok-said.said c.loop-line-test.true
    c.loop-line.invariant c.in_ok-said.ensures c.in_ok-push.ensures.items
