use Rattle.site_turn.proofs.Readied.{may_make}
use Rattle.shared_net.proofs.wide.make_wide.Goals as goal

pub propose_chosen-requires : goal.propose_chosen-requires
propose_chosen-requires g c = may_make c.args.program.now.version c.args.code.now c.args.tree.now
    c.args.site.now c.args.chosen.now c.requires.chosen c.requires.some
