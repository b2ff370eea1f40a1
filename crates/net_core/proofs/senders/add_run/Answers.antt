use Rattle.std.proofs.Common.{◌∙◌, ap}
use Rattle.net_core.specs.declared.senders.Run.{Run}
use Rattle.net_core.specs.inside.Runs.{spread}
use Rattle.net_core.proofs.Spreads.{spread_more}
use Rattle.net_core.proofs.senders.add_run.Goals as goal

pub returns-then-count-gt0 : goal.returns-then-count-gt0
returns-then-count-gt0 c =
    let r : Run = record { from = c.args.from; count = c.args.count } in
    ap spread c.push_back_reserved.ensures.items ∙ spread_more c.args.runs.now.items r
