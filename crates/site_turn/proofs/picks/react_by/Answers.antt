use Rattle.reducer.proofs.Levels.{level_at, told_as}
use Rattle.site_turn.proofs.picks.react_by.Goals as goal

pub event_of-requires-clause-told : goal.event_of-requires-clause-told
event_of-requires-clause-told c = λ x picks.
    told_as c.args.code.now c.args.site.now c.args.pick.now x picks
    (level_at c.args.code.now c.args.tree.now c.args.site.now c.args.pick.now.group x.group
    c.requires.fit.in_code picks.group)
