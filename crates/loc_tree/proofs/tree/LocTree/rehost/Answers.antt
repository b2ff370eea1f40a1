use Rattle.std.proofs.Common.{arith}
use Rattle.loc_tree.specs.Tree.{Tree}
use Rattle.loc_tree.proofs.Follows.{move_follows, moved_number}
use Rattle.loc_tree.proofs.Keeps.{move_stored}
use Rattle.loc_tree.proofs.tree.LocTree.rehost.Goals as goal

pub invariant_of-self : goal.invariant_of-self
invariant_of-self c =
    let t : Tree = record {
      roots = c.self.inside.roots;
      entries = c.self.inside.spots.entries;
      spare = c.self.inside.room;
    } in
    let can = rw (← c.self.view_is) at c.requires in
    rw c.renumber.ensures.entries
    (move_stored t c.args.loc.now c.args.target.now _ _ _ c.self.invariant can (omega arith))

pub returns-clause-number : goal.returns-clause-number
returns-clause-number c =
    let can = rw (← c.self.view_is) at c.requires in
    rw (← c.self.view_is, c.renumber.ensures.entries)
    (moved_number _ c.self.invariant.is c.args.loc.now c.args.target.now can)

pub returns-clause-placed : goal.returns-clause-placed
returns-clause-placed c =
    let can = rw (← c.self.view_is) at c.requires in
    rw (← c.self.view_is, c.renumber.ensures.entries)
    (λ placed of. move_follows _ placed of c.args.loc.now c.args.target.now can)
