use Rattle.std.proofs.Common.{ap}
use Rattle.std.specs.Prelude.{is_some}
use Rattle.site_turn.proofs.Requests.{asked_there}
use Rattle.net_core.proofs.FirstRequests.{none_at_all, least_here}
use Rattle.net_core.proofs.searching.least_at.Goals as goal

pub asked-requires : goal.asked-requires
asked-requires c = ap is_some (asked_there c.args.version c.args.tree.now c.args.site.now
    c.in-Some.atom c.in-Some.ensures.some.met).1

pub returns-in-Some-clause-some : goal.returns-in-Some-clause-some
returns-in-Some-clause-some c = least_here c.args.version c.args.tree.now c.args.site.now
    c.in-Some.atom c.asked.result c.asked.ensures c.in-Some.ensures.some

pub returns-in-None-clause-none : goal.returns-in-None-clause-none
returns-in-None-clause-none c = none_at_all c.args.version c.args.tree.now c.args.site.now
    c.in-None.ensures.none
