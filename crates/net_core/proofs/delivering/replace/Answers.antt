use Rattle.std.proofs.Common.{◌<◌, ◌∙◌, ◌++◌, ap, arith}
use Rattle.std.specs.VecDeque.{deque_len}
use Rattle.net_core.proofs.Members.{on_some, removed}
use Rattle.net_core.proofs.delivering.replace.Goals as goal

pub add_last-requires : goal.add_last-requires
add_last-requires c =
    let flights = c.args.flights.now in
    let below : c.args.place < deque_len flights = omega (arith, c.requires.place, flights.ok.0) in
    let one = on_some c.remove-gone.result (c.remove-gone.ensures.variant.1 below)
    c.remove-gone.ensures.len in
    omega (arith, one, c.remove-gone.ensures.capacity, c.requires.few, flights.small.1)

pub returns : goal.returns
returns c =
    let flights = c.args.flights.now in
    let below : c.args.place < deque_len flights = omega (arith, c.requires.place, flights.ok.0) in
    let left = on_some c.remove-gone.result (c.remove-gone.ensures.variant.1 below)
    c.remove-gone.ensures.items in
    c.add_last.ensures
    ∙ ap (λ xs. xs ++ c.args.more)
    (removed flights.items c.args.place c.remove-gone.new.self.items c.requires.place left)
