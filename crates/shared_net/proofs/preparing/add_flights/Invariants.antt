use Rattle.std.proofs.Common.{◌≡◌}
use Rattle.std.specs.Vec.Iter.{into_iter_items}
use Rattle.shared_net.specs.inside.Beginning.{with_flights}
use Rattle.shared_net.proofs.preparing.add_flights.Given as goal

abbrev pub invariant-loop-flight : goal.invariant-loop-flight
invariant-loop-flight l =
    with_flights (into_iter_items l.flight-iterator) l.mails
    ≡ with_flights l.fn.flights l.initial.mails
