use Rattle.std.proofs.Common.{List, ℕ, sym, subst}
use Rattle.net_core.specs.Parts.{IsMessageText}
use Rattle.net_core.specs.Received.{with_last}
use Rattle.net_core.specs.Whole.{RunsSome}
use Rattle.net_tests.proofs.Brought.{comes_back, to_a_site, is_spelled}
use Rattle.net_tests.proofs.bringing.bring_back.Goals as goal

pub receive-requires-clause-site : goal.receive-requires-clause-site
receive-requires-clause-site c = to_a_site c.args.net.now c.drain_one.new.net c.in-Some.first
    c.stands_for_some.ensures.runs c.in-Some.ensures

pub receive-requires-clause-spelled : goal.receive-requires-clause-spelled
receive-requires-clause-spelled c =
    subst IsMessageText (sym c.as_slice-bytes.ensures.members) (is_spelled c.args.net.now
    c.drain_one.new.net c.in-Some.first c.stands_for_some.ensures.runs c.in-Some.ensures)

pub receive-requires-clause-stands : goal.receive-requires-clause-stands
receive-requires-clause-stands c =
    let new = c.drain_one.new.net in
    let first = c.in-Some.first in
    subst (λ (bs : List ℕ). RunsSome new.code (with_last new.net first.flight.target bs))
    (sym c.as_slice-bytes.ensures.members)
    (comes_back c.args.net.now new first c.stands_for_some.ensures.runs c.in-Some.ensures)
