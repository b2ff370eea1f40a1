use Rattle.sort_laws.specs.Table.{asked_by}
use Rattle.sort_check.specs.inside.Beside.{kept}
use Rattle.sort_check.proofs.Gathered.{entries-stepped}
use Rattle.sort_check.proofs.gather.parameters.Goals as goal

pub loop-index-preserved : goal.loop-index-preserved
loop-index-preserved c = entries-stepped (asked_by (kept c.args.table.now).args c.args.sort)
    c.args.params.now c.loop-index.index _ c.asked_at.result _ c.loop-index.list _
    c.loop-index-test.true c.asked_at.ensures c.loop-index.invariant c.in_ok-push.ensures.ok
