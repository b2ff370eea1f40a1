use Rattle.net_core.proofs.InPlace.{may_have, worked_at}
use Rattle.net_core.proofs.turns.work_at.Goals as goal

pub take_turn-requires-clause-alone : goal.take_turn-requires-clause-alone
take_turn-requires-clause-alone c =
    let can = may_have c.args.turns.code.now c.args.tree.now c.args.turns.flights.now
    c.args.turns.quota c.args.sites.now c.args.number c.index-sites-number.result c.requires.number
    c.requires.can in
    (can.events, can.few, can.alone)

pub take_turn-requires-clause-spelled : goal.take_turn-requires-clause-spelled
take_turn-requires-clause-spelled c =
    (may_have c.args.turns.code.now c.args.tree.now c.args.turns.flights.now c.args.turns.quota
    c.args.sites.now c.args.number c.index-sites-number.result c.requires.number
    c.requires.can).spelled

pub returns : goal.returns
returns c = worked_at c.args.turns.code.now c.args.tree.now c.args.turns.quota
    c.args.turns.flights.now c.args.sites.now c.args.number c.index-sites-number.result
    c.take_turn.new.site c.take_turn.result c.take_turn.ensures
