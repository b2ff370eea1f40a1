use Rattle.std.proofs.Common.{◌≡◌, ◌∷◌, ◌++◌, List, length, sym, subst, ap, ◌∙◌, rules, arith}
use Rattle.std.specs.Vec.Iter.{into_iter_items}
use Rattle.chem_model.specs.Each.{Each}
use Rattle.net_laws.specs.Kept.{AreApart}
use Rattle.site_shelves.specs.declared.told.NewGroup.{NewGroup}
use Rattle.site_shelves.specs.CanLay.{HasNumbers}
use Rattle.site_shelves.specs.inside.Index.{told_of, groups_of, new_groups, HasRoom}
use Rattle.site_shelves.specs.inside.New.{told_of_new, widths, IsNewGroup}
use Rattle.site_shelves.proofs.LaidAll.{apart-first}
use Rattle.site_shelves.proofs.Laying.{groups-next, apart-of-next, room-next}
use Rattle.site_shelves.proofs.more.add_groups.Goals as goal

pub add_group-requires-clause-apart : goal.add_group-requires-clause-apart
add_group-requires-clause-apart c =
    let items : into_iter_items c.loop-group.group-iterator
    ≡ c.in-Some.group ∷ into_iter_items c.next.new.self = search rules in
    apart-first (told_of c.loop-group.groups.groups)
    c.in-Some.group.idle.told (told_of_new (into_iter_items c.next.new.self))
    (subst (λ (rs : List NewGroup). AreApart (told_of c.loop-group.groups.groups ++ told_of_new rs))
    items c.loop-group.invariant.apart)

pub add_group-requires-clause-is : goal.add_group-requires-clause-is
add_group-requires-clause-is c =
    let items : into_iter_items c.loop-group.group-iterator
    ≡ c.in-Some.group ∷ into_iter_items c.next.new.self = search rules in
    (subst (Each IsNewGroup) items c.loop-group.invariant.new).0

pub loop-group-preserved : goal.loop-group-preserved
loop-group-preserved c =
    let items : into_iter_items c.loop-group.group-iterator
    ≡ c.in-Some.group ∷ into_iter_items c.next.new.self = search rules in
    let inv = c.loop-group.invariant in
    let d = c.in-Some.group.idle.told in
    let rest = into_iter_items c.next.new.self in
    let qs = c.loop-group.groups.groups in
    let many = ap length items in
    let new = subst (Each IsNewGroup) items inv.new in
    let numbers =
    subst (λ (rs : List NewGroup). Each HasNumbers (told_of_new rs)) items inv.numbers in
    let apart =
    subst (λ (rs : List NewGroup). AreApart (told_of qs ++ told_of_new rs)) items inv.apart in
    let done = ap (λ (rs : List NewGroup). groups_of qs ++ new_groups (told_of_new rs)) (sym items)
    ∙ inv.done in
    let fits = subst (λ (rs : List NewGroup). HasRoom c.loop-group.spots (length rs) (widths rs))
    items inv.fits in
    record {
      done = groups-next qs c.add_group.new.groups.groups d (told_of_new rest) _
          c.add_group.ensures.groups done;
      many = omega (arith, many, inv.many, c.add_group.ensures.many);
      spare = c.add_group.ensures.spare ∙ inv.spare;
      index = c.add_group.ensures.index;
      new = new.1;
      numbers = numbers.1;
      apart = apart-of-next qs c.add_group.new.groups.groups d (told_of_new rest)
          c.add_group.ensures.groups apart;
      room = omega (arith, many, inv.room, c.add_group.ensures.spare_groups);
      fits = c.add_group.ensures.left (length rest) (widths rest)
          (room-next c.loop-group.spots c.in-Some.group rest fits);
      covering = c.add_group.ensures.covering;
    }
