use Rattle.code_run.proofs.Blocks.{channels_more}
use Rattle.code_run.proofs.naming.name_channels.Goals as goal

pub loop-count-preserved : goal.loop-count-preserved
loop-count-preserved c = channels_more c.args.site c.args.home c.args.from
    c.as_slice-count-items.result.now c.loop-count._count-index c.loop-count.k c.in_ok-k.k
    c.args.names.now c.loop-count.names c.push.new.self c.loop-count-test.true
    c.loop-count.invariant c.in_ok-push.ensures.ok c.in_ok-k.ensures
