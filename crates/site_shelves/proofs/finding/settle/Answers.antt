use Rattle.std.proofs.Common.{◌≡◌, sym, ◌∙◌, ap, subst, length, Some, None, ◌∷◌, arith, rules}
use Rattle.std.specs.Vec.Iter.{into_iter_items}
use Rattle.net_laws.specs.Holding.{put_all}
use Rattle.site_shelves.specs.inside.Index.{Rows, spot_of, told_of, groups_of, holding, IsIndex}
use Rattle.site_shelves.proofs.Queueing.{taken, not_taken}
use Rattle.site_shelves.proofs.Putting.{with-last-many}
use Rattle.site_shelves.proofs.Putting.{put-queued, put-stuck, first-put}
use Rattle.site_shelves.proofs.Noting.{serials-known}
use Rattle.site_shelves.proofs.finding.settle.Goals as goal

pub push_in-requires-clause-group : goal.push_in-requires-clause-group
push_in-requires-clause-group c = (taken c.args.spots.now c.loop-one.groups.groups c.in-Some.one.msg
    c.in-Some-find.spot c.loop-one.invariant.index (sym c.in-Some-find.ensures)).group

pub push_in-requires-clause-chan : goal.push_in-requires-clause-chan
push_in-requires-clause-chan c = (taken c.args.spots.now c.loop-one.groups.groups c.in-Some.one.msg
    c.in-Some-find.spot c.loop-one.invariant.index (sym c.in-Some-find.ensures)).chan

pub push_in-requires-clause-serials : goal.push_in-requires-clause-serials
push_in-requires-clause-serials c =
    serials-known c.args.spots.now c.loop-one.groups.groups c.loop-one.invariant.index

pub loop-one-preserved-in-Some-find : goal.loop-one-preserved-in-Some-find
loop-one-preserved-in-Some-find c =
    let items : into_iter_items c.loop-one.one-iterator
    ≡ c.in-Some.one ∷ into_iter_items c.next.new.self = search rules in
    let it = taken c.args.spots.now c.loop-one.groups.groups c.in-Some.one.msg c.in-Some-find.spot
    c.loop-one.invariant.index (sym c.in-Some-find.ensures) in
    let is = it.is ∙ ap (λ (qs : Rows). Some (groups_of qs)) (sym c.push_in.ensures.groups) in
    let room = c.loop-one.invariant.room in
    let fits = c.loop-one.invariant.fits in
    let many = ap length items in
    record {
      done = λ s. first-put (holding s c.loop-one.groups.groups c.loop-one.stuck.items)
          (holding s c.push_in.new.groups.groups c.loop-one.stuck.items)
          c.in-Some.one (into_iter_items c.next.new.self) _ (put-queued s c.loop-one.groups.groups
          c.push_in.new.groups.groups c.loop-one.stuck.items c.in-Some.one.loc c.in-Some.one.msg is)
          (ap (λ ws. put_all ws (holding s c.loop-one.groups.groups c.loop-one.stuck.items))
          (sym items) ∙ c.loop-one.invariant.done s);
      many = ap length c.push_in.ensures.groups
          ∙ with-last-many c.loop-one.groups.groups c.in-Some-find.spot.group
          c.in-Some-find.spot.chan c.in-Some.one.msg ∙ c.loop-one.invariant.many;
      index = subst (λ (qs : Rows). IsIndex c.args.spots.now (groups_of qs))
          (sym c.push_in.ensures.groups) it.index;
      room = omega (arith, c.push_in.ensures.spare);
      spare = omega (arith, c.push_in.ensures.spare, c.loop-one.invariant.spare);
      capacity = c.loop-one.invariant.capacity;
      less = omega (arith, c.loop-one.invariant.less);
      fits = omega arith;
      covering = c.push_in.ensures.covering;
    }

pub loop-one-preserved : goal.loop-one-preserved
loop-one-preserved c =
    let items : into_iter_items c.loop-one.one-iterator
    ≡ c.in-Some.one ∷ into_iter_items c.next.new.self = search rules in
    let none : spot_of (told_of c.loop-one.groups.groups) c.in-Some.one.msg ≡ None = search rules in
    let is = not_taken c.args.spots.now c.loop-one.groups.groups c.in-Some.one.msg
    c.loop-one.invariant.index none in
    let room = c.loop-one.invariant.room in
    let fits = c.loop-one.invariant.fits in
    let many = ap length items in
    record {
      done = λ s. first-put (holding s c.loop-one.groups.groups c.loop-one.stuck.items)
          (holding s c.loop-one.groups.groups c.push_reserved.new.self.items)
          c.in-Some.one (into_iter_items c.next.new.self) _ (put-stuck s
          c.loop-one.groups.groups c.loop-one.stuck.items c.in-Some.one.loc c.in-Some.one.msg is
          ∙ ap (λ ws. holding s c.loop-one.groups.groups ws) (sym c.push_reserved.ensures.items))
          (ap (λ ws. put_all ws (holding s c.loop-one.groups.groups c.loop-one.stuck.items))
          (sym items) ∙ c.loop-one.invariant.done s);
      many = c.loop-one.invariant.many;
      index = c.loop-one.invariant.index;
      room = omega arith;
      spare = omega (arith, c.loop-one.invariant.spare);
      capacity = c.push_reserved.ensures.capacity ∙ c.loop-one.invariant.capacity;
      less = omega (arith, c.loop-one.invariant.less, ap length c.push_reserved.ensures.items);
      fits = omega (
        arith,
        c.push_reserved.ensures.len,
        c.push_reserved.ensures.capacity,
        ap length c.push_reserved.ensures.items,
      );
      covering = c.loop-one.invariant.covering;
    }
