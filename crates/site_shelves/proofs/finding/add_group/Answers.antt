use Rattle.std.proofs.Common.{ℕ, ◌+◌, ◌∙◌, ◌∷◌, ◌++◌, [], refl, sym, ap, arith}
use Rattle.std.specs.Prelude.{Vec, vec_len, vec_capacity}
use Rattle.std.specs.declared.alloc.Global.{Global}
use Rattle.queue_cells.specs.Grouped.{idle_group}
use Rattle.site_shelves.specs.inside.Index.{groups_of}
use Rattle.site_shelves.proofs.Putting.{group-laid}
use Rattle.site_shelves.proofs.Naming.{index-added}
use Rattle.net_laws.specs.Holding.{new_group}
use Rattle.site_shelves.proofs.Queueing.{groups-many}
use Rattle.site_shelves.proofs.Noting.{serials-known, group-covering}
use Rattle.site_shelves.proofs.finding.add_group.Goals as goal

pub returns-clause-groups : goal.returns-clause-groups
returns-clause-groups c =
    let width = c.requires.is.wide ∙ sym c.requires.is.counts in
    let more = c.add_reserved.ensures.groups
    ∙ ap (λ n. c.args.groups.now.groups ++ idle_group c.args.laid.idle.told n ∷ []) width in
    ap groups_of more ∙ group-laid c.args.groups.now.groups c.args.laid.idle.told

pub returns-clause-index : goal.returns-clause-index
returns-clause-index c =
    let width = c.requires.is.wide ∙ sym c.requires.is.counts in
    let more = c.add_reserved.ensures.groups
    ∙ ap (λ n. c.args.groups.now.groups ++ idle_group c.args.laid.idle.told n ∷ []) width in
    let is = ap groups_of more ∙ group-laid c.args.groups.now.groups c.args.laid.idle.told in
    let serials = c.push_reserved.ensures.items
    ∙ ap (λ (v : Vec ℕ Global). v.items ++ c.args.spots.now.next ∷ [])
    c.name_queues.ensures.serials in
    index-added c.args.spots.now (record {
      marks = c.name_queues.new.spots.marks;
      serials = c.push_reserved.new.self;
      next = c.args.spots.now.next + 1;
    }) c.args.groups.now.groups (groups_of c.add_reserved.new.self.groups)
    c.args.laid.idle.told c.args.laid.first c.args.laid.home c.args.laid.width c.requires.index c.requires.apart
    c.requires.is.first c.requires.is.home c.requires.is.counts c.name_queues.ensures.named serials refl is

pub refresh-requires-clause-serials : goal.refresh-requires-clause-serials
refresh-requires-clause-serials c =
    let width = c.requires.is.wide ∙ sym c.requires.is.counts in
    let more = c.add_reserved.ensures.groups
    ∙ ap (λ n. c.args.groups.now.groups ++ idle_group c.args.laid.idle.told n ∷ []) width in
    let is = ap groups_of more ∙ group-laid c.args.groups.now.groups c.args.laid.idle.told in
    let serials = c.push_reserved.ensures.items
    ∙ ap (λ (v : Vec ℕ Global). v.items ++ c.args.spots.now.next ∷ [])
    c.name_queues.ensures.serials in
    serials-known (record {
      marks = c.name_queues.new.spots.marks;
      serials = c.push_reserved.new.self;
      next = c.args.spots.now.next + 1;
    }) c.add_reserved.new.self.groups
    (index-added c.args.spots.now (record {
      marks = c.name_queues.new.spots.marks;
      serials = c.push_reserved.new.self;
      next = c.args.spots.now.next + 1;
    }) c.args.groups.now.groups (groups_of c.add_reserved.new.self.groups)
    c.args.laid.idle.told c.args.laid.first c.args.laid.home c.args.laid.width c.requires.index c.requires.apart
    c.requires.is.first c.requires.is.home c.requires.is.counts c.name_queues.ensures.named serials refl is)

pub refresh-requires-clause-others : goal.refresh-requires-clause-others
refresh-requires-clause-others c =
    let width = c.requires.is.wide ∙ sym c.requires.is.counts in
    let more = c.add_reserved.ensures.groups
    ∙ ap (λ n. c.args.groups.now.groups ++ idle_group c.args.laid.idle.told n ∷ []) width in
    let is = ap groups_of more ∙ group-laid c.args.groups.now.groups c.args.laid.idle.told in
    let serials = c.push_reserved.ensures.items
    ∙ ap (λ (v : Vec ℕ Global). v.items ++ c.args.spots.now.next ∷ [])
    c.name_queues.ensures.serials in
    group-covering c.args.covering.now c.args.spots.now.serials.items c.push_reserved.new.self.items
    (groups_of c.args.groups.now.groups) (groups_of c.add_reserved.new.self.groups)
    c.args.spots.now.next (new_group c.args.laid.idle.told) c.len-group.result c.requires.index.many
    (c.len-group.ensures ∙ sym (groups-many c.args.groups.now.groups)) serials is
    c.requires.covering

pub returns-clause-left : goal.returns-clause-left
returns-clause-left c = λ g k room.
    let len = ap vec_len c.name_queues.ensures.serials in
    let capacity = ap vec_capacity c.name_queues.ensures.serials in
    record {
      serials = omega
          (arith, room.serials, c.push_reserved.ensures.len, c.push_reserved.ensures.capacity);
      numbers = omega (arith, room.numbers);
      marks = omega (arith, room.marks, c.name_queues.ensures.room);
    }
