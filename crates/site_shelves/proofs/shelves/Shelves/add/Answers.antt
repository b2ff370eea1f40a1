use Rattle.std.proofs.Common.{◌≡◌, ◌<◌, ◌^◌, ◌++◌, List, [], length, subst, sym, ap, ◌∙◌}
use Rattle.std.proofs.Common.{arith}
use Rattle.chem_model.specs.Each.{Each}
use Rattle.chem_laws.proofs.Lists.{Each-append}
use Rattle.net_laws.specs.Site.{Told, Group, Site, told_in}
use Rattle.net_laws.specs.Kept.{AreApart}
use Rattle.net_laws.specs.Opening.{empty_site}
use Rattle.net_laws.specs.Holding.{put_all}
use Rattle.site_shelves.specs.CanLay.{HasNumbers}
use Rattle.site_shelves.specs.Shelved.{Shelved, AreShelved}
use Rattle.site_shelves.specs.inside.Index.{Rows, groups_of, told_of, new_groups, IsIndex}
use Rattle.site_shelves.specs.inside.New.{told_of_new, gone_at}
use Rattle.site_shelves.proofs.Queueing.{groups-many}
use Rattle.site_shelves.proofs.Noting.{serials-known, same-covering}
use Rattle.site_shelves.proofs.StillHeld.{fronts-still}
use Rattle.site_shelves.specs.inside.Begun.{IsBegun}
use Rattle.site_shelves.proofs.Begins.{all-kept}
use Rattle.site_shelves.proofs.Shelving.{told-gone, index-gone, put_all-told, told-laid}
use Rattle.site_shelves.proofs.shelves.Shelves.add.Goals as goal

pub make_room-requires-clause-waiting : goal.make_room-requires-clause-waiting
make_room-requires-clause-waiting c =
    let can = rw (← c.self.view_is) at c.requires in
    can.waiting

pub make_room-requires-clause-new : goal.make_room-requires-clause-new
make_room-requires-clause-new c = c.requires.new

pub lay_and_settle-requires-clause-index : goal.lay_and_settle-requires-clause-index
lay_and_settle-requires-clause-index c =
    let qs = c.self.inside.groups.groups in
    let fronts : groups_of c.take_fronts.new.groups.groups
    ≡ gone_at c.args.group c.args.chans.now (groups_of qs) = c.take_fronts.ensures.groups
    ∙ ap (λ (rs : Rows). gone_at c.args.group c.args.chans.now (groups_of rs))
    c.make_room.ensures.groups in
    let index = c.make_room.ensures.index (groups_of qs) c.self.invariant.index in
    subst (λ (gs : List Group). IsIndex c.make_room.new.spots gs) (sym fronts)
    (index-gone c.make_room.new.spots (groups_of qs) c.args.group c.args.chans.now index)

pub lay_and_settle-requires-clause-apart : goal.lay_and_settle-requires-clause-apart
lay_and_settle-requires-clause-apart c =
    let can = rw (← c.self.view_is) at c.requires in
    let qs = c.self.inside.groups.groups in
    let fronts : groups_of c.take_fronts.new.groups.groups
    ≡ gone_at c.args.group c.args.chans.now (groups_of qs) = c.take_fronts.ensures.groups
    ∙ ap (λ (rs : Rows). gone_at c.args.group c.args.chans.now (groups_of rs))
    c.make_room.ensures.groups in
    let told : told_of c.take_fronts.new.groups.groups ≡ told_of qs =
    ap told_in fronts ∙ told-gone (groups_of qs) c.args.group c.args.chans.now in
    subst (λ (ds : List Told). AreApart (ds ++ told_of_new c.args.more.groups.items)) (sym told)
    can.apart

pub lay_and_settle-requires-clause-room : goal.lay_and_settle-requires-clause-room
lay_and_settle-requires-clause-room c =
    omega (arith, c.in-Ok.ensures.room.messages, c.take_fronts.ensures.spare)

pub lay_and_settle-requires-clause-groups_fit : goal.lay_and_settle-requires-clause-groups_fit
lay_and_settle-requires-clause-groups_fit c =
    omega (arith, c.in-Ok.ensures.room.groups_fit, c.take_fronts.ensures.spare_groups)

pub lay_and_settle-requires-clause-left : goal.lay_and_settle-requires-clause-left
lay_and_settle-requires-clause-left c = c.in-Ok.ensures.room.left

pub lay_and_settle-requires-clause-channels : goal.lay_and_settle-requires-clause-channels
lay_and_settle-requires-clause-channels c = c.in-Ok.ensures.room.channels

pub lay_and_settle-requires-clause-new : goal.lay_and_settle-requires-clause-new
lay_and_settle-requires-clause-new c = c.requires.new

pub lay_and_settle-requires-clause-numbers : goal.lay_and_settle-requires-clause-numbers
lay_and_settle-requires-clause-numbers c = c.requires.numbers

pub lay_and_settle-requires-clause-covering : goal.lay_and_settle-requires-clause-covering
lay_and_settle-requires-clause-covering c =
    fronts-still c.self.inside.covering c.make_room.new.spots.serials.items
    (groups_of c.make_room.new.groups.groups) (groups_of c.take_fronts.new.groups.groups)
    c.args.group c.args.chans.now c.take_fronts.ensures.groups
    (same-covering c.self.inside.covering c.self.inside.spots.serials.items
    c.make_room.new.spots.serials.items (groups_of c.self.inside.groups.groups)
    (groups_of c.make_room.new.groups.groups)
    c.make_room.ensures.serials (ap groups_of c.make_room.ensures.groups)
    c.self.invariant.covering)

pub refresh_empty-requires-clause-serials : goal.refresh_empty-requires-clause-serials
refresh_empty-requires-clause-serials c =
    serials-known c.lay_and_settle.new.spots c.lay_and_settle.new.groups.groups
    c.lay_and_settle.ensures.index

pub refresh_empty-requires-clause-is : goal.refresh_empty-requires-clause-is
refresh_empty-requires-clause-is c = c.lay_and_settle.ensures.covering

pub invariant_of-self : goal.invariant_of-self
invariant_of-self c =
    let kept = c.self.invariant in
    let qs = c.self.inside.groups.groups in
    let same = c.make_room.ensures.groups in
    record {
      index = subst (λ (rs : Rows). IsIndex c.make_room.new.spots (groups_of rs)) (sym same)
          (c.make_room.ensures.index (groups_of qs) kept.index);
      numbers = subst (λ (rs : Rows). Each HasNumbers (told_of rs)) (sym same) kept.numbers;
      few = subst (λ (rs : Rows). length rs < 2 ^ 32) (sym same) kept.few;
      covering = same-covering c.self.inside.covering c.self.inside.spots.serials.items
          c.make_room.new.spots.serials.items (groups_of qs)
          (groups_of c.make_room.new.groups.groups) c.make_room.ensures.serials
          (ap groups_of same) kept.covering;
      begun = subst (λ (rs : Rows). Each (IsBegun c.make_room.new.firsts.keys) (told_of rs))
          (sym same) (all-kept c.self.inside.firsts.keys c.make_room.new.firsts.keys (told_of qs)
          c.make_room.ensures.kept kept.begun);
    }

pub invariant_of-self-2 : goal.invariant_of-self-2
invariant_of-self-2 c =
    let can = rw (← c.self.view_is) at c.requires in
    let qs = c.self.inside.groups.groups in
    let ds = told_of_new c.args.more.groups.items in
    let s : Site = empty_site 0 0 [] in
    let taken = groups_of c.take_fronts.new.groups.groups in
    let was : told_in taken ≡ told_of qs = ap told_in c.take_fronts.ensures.groups
    ∙ ap (λ (rs : Rows). told_in (gone_at c.args.group c.args.chans.now (groups_of rs)))
    c.make_room.ensures.groups
    ∙ told-gone (groups_of qs) c.args.group c.args.chans.now in
    let laid : Site = record s {
      groups = taken ++ new_groups ds;
      stuck = c.make_room.new.stuck.items;
    } in
    let told : told_of c.lay_and_settle.new.groups.groups ≡ told_of qs ++ ds =
    ap (λ (t : Site). told_in t.groups) (sym (c.lay_and_settle.ensures.site s))
    ∙ put_all-told c.args.more.waiting.items (put_all c.in-Ok.again.items laid)
    ∙ put_all-told c.in-Ok.again.items laid ∙ told-laid taken ds ∙ ap (λ es. es ++ ds) was in
    record {
      index = c.lay_and_settle.ensures.index;
      numbers = subst (Each HasNumbers) (sym told)
          (Each-append HasNumbers (told_of qs) ds c.self.invariant.numbers c.requires.numbers);
      few = omega (
        arith,
        c.lay_and_settle.ensures.many,
        c.take_fronts.ensures.many,
        ap length c.make_room.ensures.groups,
        can.few,
        groups-many qs,
      );
      covering = c.refresh_empty.ensures;
      begun = subst (Each (IsBegun c.make_room.new.firsts.keys)) (sym told)
          (Each-append (IsBegun c.make_room.new.firsts.keys) (told_of qs) ds
          (all-kept c.self.inside.firsts.keys c.make_room.new.firsts.keys (told_of qs)
          c.make_room.ensures.kept c.self.invariant.begun) c.in-Ok.ensures.begun);
    }

pub returns-clause-ok : goal.returns-clause-ok
returns-clause-ok c =
    let new : Shelved = record {
      groups = groups_of c.lay_and_settle.new.groups.groups;
      stuck = c.lay_and_settle.new.stuck.items;
    } in
    subst (λ (h : Shelved). AreShelved c.args.more c.args.group c.args.chans.now h new)
    c.self.view_is (record {
      again = c.in-Ok.again.items;
      left = c.make_room.new.stuck.items;
      restacked = c.in-Ok.ensures.again;
      settled = λ s.
          ap (λ (gs : List Group). put_all c.args.more.waiting.items (put_all c.in-Ok.again.items
          (record s {
            groups = gs ++ new_groups (told_of_new c.args.more.groups.items);
            stuck = c.make_room.new.stuck.items;
          })))
          (sym (c.take_fronts.ensures.groups
          ∙ ap (λ (rs : Rows). gone_at c.args.group c.args.chans.now (groups_of rs))
          c.make_room.ensures.groups))
          ∙ c.lay_and_settle.ensures.site s;
    })
