use Rattle.net_core.proofs.Doing.{met_not}
use Rattle.net_core.proofs.acting.met_by.Goals as goal

pub unreachable-requires : goal.unreachable-requires
unreachable-requires c = met_not c.args.version c.args.sites.now c.args.tree.now c.args.choice.now
    c.requires.met.0 c.requires.met.1 c.in-None.ensures.none
