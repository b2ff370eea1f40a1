use Rattle.std.proofs.Common.{arith}
use Rattle.net_core.proofs.slots.send.Goals as goal

pub add_flights-requires : goal.add_flights-requires
add_flights-requires c =
    let many = c.len-count.ensures.count in
    let low = c.if-count-under_way.false in
    (omega (arith, many, c.in_ok-reserve.ensures.ok), omega (arith, many, low))
