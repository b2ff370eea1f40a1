use Rattle.std.proofs.Common.{rules}
use Rattle.net_core.specs.inside.Slots.{IsServed}
use Rattle.net_core.proofs.SlotLists.{pairwise}
use Rattle.net_core.proofs.slots.lend.Goals as goal

pub returns : goal.returns
returns g c = pairwise (IsServed c.args.round.code.now c.args.round.tree.now
    c.args.round.flights.now c.args.round.quota) c.args.slots.now c.for_each_mut.new.s
    c.for_each_mut.auto.s (λ i d lt. search (rules, c.for_each_mut.ensures i d lt))
