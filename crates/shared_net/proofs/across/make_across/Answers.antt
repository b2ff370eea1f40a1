use Rattle.site_turn.proofs.Choices.{meet_wider}
use Rattle.shared_net.proofs.across.make_across.Goals as goal

pub propose_move-requires-clause-may : goal.propose_move-requires-clause-may
propose_move-requires-clause-may g c = (
  c.requires.chosen.0,
  meet_wider c.args.program.now.version c.args.tree.now c.args.site.now c.args.atom.now
      c.requires.chosen.1.1.met,
)
