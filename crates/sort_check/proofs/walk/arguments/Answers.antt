use Rattle.std.proofs.Common.{refl}
use Rattle.sort_check.specs.inside.Beside.{kept}
use Rattle.sort_check.proofs.Beside.{arguments-read}
use Rattle.sort_check.proofs.walk.arguments.Goals as goal

pub loop-index-preserved : goal.loop-index-preserved
loop-index-preserved c = arguments-read (kept c.args.table.now) c.args.asked.now c.args.args.now
    c.args.names.now c.loop-index.index _ _ c.args.least.now c.loop-index.least c.argument.new.least
    c.loop-index-test.true refl c.loop-index.invariant c.argument.ensures
