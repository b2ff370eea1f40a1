use Rattle.site_turn.proofs.Readied.{may_make}
use Rattle.site_turn.proofs.stepping.end_wide.Goals as goal

pub propose_chosen-requires : goal.propose_chosen-requires
propose_chosen-requires g c =
    may_make c.args.tools.now.program.now.version c.args.tools.now.code.now c.args.tree.now
    c.args.site.now c.args.chosen.now c.requires.chosen c.requires.some
