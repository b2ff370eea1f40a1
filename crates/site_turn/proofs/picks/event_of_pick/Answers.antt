use Rattle.site_turn.proofs.Choices.{is_covered, is_told, event_is}
use Rattle.site_turn.proofs.picks.event_of_pick.Goals as goal

pub event_of-requires-clause-covered : goal.event_of-requires-clause-covered
event_of-requires-clause-covered c = is_covered c.args.code.now c.args.tree.now c.args.site.now
    c.args.pick.now c.requires.0 c.requires.1

pub event_of-requires-clause-told : goal.event_of-requires-clause-told
event_of-requires-clause-told c = is_told c.args.code.now c.args.tree.now c.args.site.now
    c.args.pick.now c.requires.0 c.requires.1

pub returns : goal.returns
returns c = event_is c.args.code.now c.args.tree.now c.args.site.now c.args.pick.now c.requires.0
    c.requires.1 c.event_of.result c.event_of.ensures
