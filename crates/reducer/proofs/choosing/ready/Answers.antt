use Rattle.std.proofs.Common.{Option, Some, None}
use Rattle.std.specs.Prelude.{IfNone}
use Rattle.reducer.proofs.Least.{quiet_where}
use Rattle.reducer.proofs.choosing.ready.Goals as goal

pub returns-clause-quiet : goal.returns-clause-quiet
returns-clause-quiet c = quiet_where c.args.code.now c.args.tree.now c.args.site.now
    c.first_of.result c.code_is_kept.ensures c.first_of.ensures.none
