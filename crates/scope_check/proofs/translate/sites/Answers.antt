use Rattle.std.proofs.Common.{arith}
use Rattle.scope_check.proofs.Room.{room-site}
use Rattle.scope_check.proofs.translate.sites.Goals as goal

pub inner-requires : goal.inner-requires
inner-requires c =
    let room = room-site c.args.list.now c.loop-tree.tree-index c.tree-item.result
    c.loop-tree-test.true c.tree-item.is in
    omega (arith, room, c.requires, c.loop-tree.invariant.end)
