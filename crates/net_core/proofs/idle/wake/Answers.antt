use Rattle.std.proofs.Common.{arith}
use Rattle.net_core.proofs.Idling.{none_woken, one_woken}
use Rattle.net_core.proofs.SiteReactions.{member_at}
use Rattle.net_core.proofs.Members.{low_some}
use Rattle.net_core.proofs.idle.wake.Goals as goal

pub loop-flight-init : goal.loop-flight-init
loop-flight-init c = none_woken c.args.flights.now c.args.idle.now.items

pub loop-flight-preserved : goal.loop-flight-preserved
loop-flight-preserved c =
    let f = c.flight-item.result in
    let at = member_at c.args.flights.now c.loop-flight.flight-index f c.loop-flight-test.true
    c.flight-item.is in
    one_woken c.args.flights.now c.loop-flight.flight-index f c.args.idle.now.items
    c.loop-flight.idle.items c.wake_at.new.idle.items at c.wake_at.ensures c.loop-flight.invariant

pub returns-clause-uncalled : goal.returns-clause-uncalled
returns-clause-uncalled c = λ i j f flag at to.
    let below = low_some c.args.flights.now j f at in
    c.loop-flight.invariant.uncalled i j f (let all = c.loop-flight-test.false in omega arith) flag
    at to
