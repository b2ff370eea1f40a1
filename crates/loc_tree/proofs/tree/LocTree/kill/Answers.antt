use Rattle.std.proofs.Common.{arith}
use Rattle.loc_tree.specs.Tree.{Tree}
use Rattle.loc_tree.proofs.Follows.{mark_follows}
use Rattle.loc_tree.proofs.Keeps.{mark_stored}
use Rattle.loc_tree.proofs.tree.LocTree.kill.Goals as goal

pub invariant_of-self : goal.invariant_of-self
invariant_of-self c =
    let t : Tree = record {
      roots = c.self.inside.roots;
      entries = c.self.inside.spots.entries;
      spare = c.self.inside.room;
    } in
    rw c.mark.ensures.entries (mark_stored t c.args.loc.now _ _ _ c.self.invariant (omega arith))

pub returns-clause-placed : goal.returns-clause-placed
returns-clause-placed c = rw (← c.self.view_is, c.mark.ensures.entries)
    (λ placed of. mark_follows _ placed of c.args.loc.now)
