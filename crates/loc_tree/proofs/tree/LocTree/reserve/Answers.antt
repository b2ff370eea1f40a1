use Rattle.loc_tree.specs.Tree.{Tree}
use Rattle.loc_tree.proofs.Keeps.{room_stored}
use Rattle.loc_tree.proofs.tree.LocTree.reserve.Goals as goal

pub invariant_of-self-then-more-self : goal.invariant_of-self-then-more-self
invariant_of-self-then-more-self c =
    let t : Tree = record {
      roots = c.self.inside.roots;
      entries = c.self.inside.spots.entries;
      spare = c.self.inside.room;
    } in
    rw c.in_ok-reserve.ensures.entries (room_stored t c.self.inside.newest.items _ c.args.more _
    c.self.invariant c.in_ok-reserve.ensures.ok)
