use Rattle.std.proofs.Common.{◌≡◌, length, subst, arith}
use Rattle.net_core.specs.Parts.{net_of}
use Rattle.net_core.specs.Whole.{NetParts, RunsSome}
use Rattle.net_core.specs.inside.Runs.{spread}
use Rattle.net_core.proofs.Carrying.{carried_length}
use Rattle.net_core.proofs.net.Net.stands_for_some.Goals as goal

pub returns-clause-runs : goal.returns-clause-runs
returns-clause-runs c = subst (λ (v : NetParts). RunsSome v.code v.net)
    c.self.view_is c.self.invariant.net.whole.running.some

pub returns-clause-sent : goal.returns-clause-sent
returns-clause-sent c =
    let parts = c.self.inside.parts in
    let many : length (spread c.self.inside.senders.items)
    ≡ length (net_of c.self.inside.code.seen parts).packets = omega (
      arith,
      c.self.invariant.net.sent,
      c.self.invariant.net.whole.flying.counted,
      carried_length parts.flights.items,
    ) in
    subst (λ (v : NetParts). length v.froms ≡ length v.net.packets) c.self.view_is many
