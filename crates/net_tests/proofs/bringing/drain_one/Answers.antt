use Rattle.net_tests.proofs.Brought.{one_handed}
use Rattle.net_tests.proofs.bringing.drain_one.Goals as goal

pub returns-in-None : goal.returns-in-None
returns-in-None c =
    one_handed c.args.net.now c.drain-flights.new.self c.drain-flights.result c.next.new.self
    c.in_ok-first.first c.drain-flights.ensures c.in_ok-first.ensures c.in-None.ensures.0
