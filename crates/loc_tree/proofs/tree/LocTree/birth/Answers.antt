use Rattle.std.proofs.Common.{◌≡◌, length, ap, ◌∙◌, arith}
use Rattle.std.proofs.lemmas.List.{take_at}
use Rattle.loc_tree.specs.Tree.{Tree}
use Rattle.loc_tree.proofs.Newest.{Notes}
use Rattle.loc_tree.proofs.Follows.{birth_follows}
use Rattle.loc_tree.proofs.Keeps.{birth_stored}
use Rattle.loc_tree.proofs.tree.LocTree.birth.Goals as goal

pub invariant_of-self : goal.invariant_of-self
invariant_of-self c =
    let t : Tree = record {
      roots = c.self.inside.roots;
      entries = c.self.inside.spots.entries;
      spare = c.self.inside.room;
    } in
    let some = rw (← c.self.view_is) at c.requires.room in
    let less = rw (← c.self.view_is) at c.requires.site in
    let gone = rw (← c.self.view_is) at c.requires.new in
    let list : c.deref_mut.result.now ≡ c.self.inside.newest.items = c.deref_mut.ensures.value in
    let count : length c.note.new.newest ≡ length c.self.inside.newest.items =
    c.note.auto.newest ∙ ap length list in
    let notes : Notes c.args.loc c.self.inside.newest.items c.note.new.newest =
    rw (← list) (record {
      count = c.note.auto.newest;
      own = c.note.ensures.own;
      others = c.note.ensures.others;
    }) in
    rw (take_at c.note.new.newest _ c.self.inside.newest.len (omega arith), c.add.ensures.entries)
    (birth_stored t c.args.loc c.args.site _ _ _ _ c.self.invariant gone less some notes
    c.add.ensures.room)

pub returns-clause-placed : goal.returns-clause-placed
returns-clause-placed c =
    let less = rw (← c.self.view_is) at c.requires.site in
    let gone = rw (← c.self.view_is) at c.requires.new in
    rw (← c.self.view_is, c.add.ensures.entries)
    (λ placed of. birth_follows _ placed of c.args.loc c.args.site gone less)
