-- The arguments of one observable more have their ranks.
use Rattle.std.proofs.Common.{◌∙◌}
use Rattle.trace_text.proofs.Lists.{ranked_step}
use Rattle.trace_text.proofs.names.add_all_ranked.Goals as goal

pub loop-out-preserved : goal.loop-out-preserved
loop-out-preserved c =
    ranked_step c.args.program.now c.args.binders.now c.as_slice-out-items.result.now
    c.loop-out.ranks c.add_ranked.new.ranks c.out-item.result c.loop-out.out-index
    c.loop-out-test.true c.out-item.is c.in_ok-add_ranked.ensures
    ∙ c.loop-out.invariant
