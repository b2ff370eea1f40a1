use Rattle.std.proofs.Common.{◌≡◌, ◌<◌, length, ap, sym, ◌∙◌, arith, ltb-true, lt-ltb}
use Rattle.std.specs.Prelude.{slice_index}
use Rattle.std.proofs.lemmas.List.{get_or_read}
use Rattle.loc_tree.specs.Tree.{Tree}
use Rattle.loc_tree.specs.inside.Stored.{IsNewest}
use Rattle.loc_tree.proofs.Newest.{fresh_above, fresh_only, fresh_where_all, all_where_fresh}
use Rattle.loc_tree.proofs.tree.LocTree.fresh.Goals as goal

pub returns-in-Some : goal.returns-in-Some
returns-in-Some c =
    let t : Tree = record {
      roots = c.self.inside.roots;
      entries = c.self.inside.spots.entries;
      spare = c.self.inside.room;
    } in
    let list : c.deref.result.now ≡ c.self.inside.newest.items = c.deref.ensures.value in
    let less : c.args.site < length c.deref.result.now =
    ltb-true _ _ (sym c.in-Some.ensures.lookup.0) in
    let number : c.in-Some.newest.now ≡ slice_index c.self.inside.newest.items c.args.site =
    rw (← list) (get_or_read _ _ _ less c.in-Some.ensures.lookup.1 0) in
    let small : c.args.site < c.self.inside.roots =
    omega (arith, ap length list, c.self.invariant.newest.count) in
    let newest : IsNewest t c.args.site c.in-Some.newest.now =
    rw number (c.self.invariant.newest.each c.args.site small) in
    rw (← c.self.view_is) (
      λ e. fresh_above t c.args.site _ c.args.from newest (ltb-true _ _ e),
      λ fresh. lt-ltb _ _ (fresh_only t c.args.site _ c.args.from newest fresh),
    )

pub returns-in-None : goal.returns-in-None
returns-in-None c =
    rw (← c.self.view_is) (
      λ e. fresh_where_all c.args.site c.args.from c.self.inside.spots.entries
          (sym c.are_below.ensures ∙ e),
      λ fresh. c.are_below.ensures
          ∙ all_where_fresh c.args.site c.args.from c.self.inside.spots.entries fresh,
    )
