use Rattle.std.proofs.Common.{◌≡◌, ◌+◌, ◌<◌, ◌^◌, ◌++◌, List, length, subst, sym, ap, ◌∙◌, refl}
use Rattle.std.proofs.Common.{[], arith}
use Rattle.wire_packet.specs.declared.packet.Waiting.{Waiting}
use Rattle.wire_packet.specs.GroupFacts.{RequestParts}
use Rattle.net_laws.specs.Site.{Site, told_in}
use Rattle.chem_model.specs.declared.name.Loc.{Loc}
use Rattle.site_solution.specs.Commit.{AreNew}
use Rattle.site_shelves.specs.Counted.{waiting_in, over_requests}
use Rattle.site_solution.specs.inside.Coming.{added, CanAdd}
use Rattle.site_shelves.specs.Held.{taken_at}
use Rattle.site_solution.specs.inside.Rising.{with_requests}
use Rattle.site_solution.specs.declared.site.Site.TheInside.{Inside}
use Rattle.site_shelves.specs.Shelved.{Shelved}
use Rattle.site_solution.specs.inside.Stored.{seen, IsStored}
use Rattle.site_limits.specs.Knows.{IsKnown, Noted}
use Rattle.site_limits.specs.Limits.{AreWithin}
use Rattle.site_shelves.specs.inside.Index.{told_of}
use Rattle.site_shelves.proofs.Amounts.{stuck-many}
use Rattle.site_solution.proofs.Adding.{done-is, done-stored, may-done}
use Rattle.site_solution.proofs.Knowing.{known-later, known-add}
use Rattle.site_solution.proofs.site.Site.add_all.Goals as goal

pub add-requires : goal.add-requires
add-requires c =
    let can = rw (← c.self.view_is) at c.requires in
    let room = subst (λ (s : Site). waiting_in s + length c.args.coming.waiting.items < 2 ^ 32)
    (sym c.self.view_is) (c.if-not-has_numbers_for.ensures.waiting refl) in
    let few =
    subst (λ (s : Site). length s.groups + length c.args.coming.groups.items < 2 ^ 32)
    (sym c.self.view_is) (c.if-not-has_numbers_for.ensures.groups refl) in
    record {
      new = can.groups;
      numbers = can.numbers;
      apart = can.apart;
      few = few;
      waiting = omega (arith, room, stuck-many c.self.inside.shelves.stuck);
    }

pub add_all-requires-clause-new : goal.add_all-requires-clause-new
add_all-requires-clause-new c =
    let can = rw (← c.self.view_is) at c.requires in
    subst (λ (ls : List Loc). AreNew ls c.args.locs.now) (sym c.reserve.ensures.same) can.locs

pub add_all-requires-2-clause-room : goal.add_all-requires-2-clause-room
add_all-requires-2-clause-room c =
    omega (arith, c.in-Ok-reserve.ensures.room, ap length c.deref-3.ensures.value)

pub add_all-requires-2-clause-few : goal.add_all-requires-2-clause-few
add_all-requires-2-clause-few c = omega (
  arith,
  c.in-Ok-reserve.ensures.few,
  ap length c.reserve-2.ensures.same,
  ap length c.deref-3.ensures.value,
)

pub add_all-requires-2-clause-new : goal.add_all-requires-2-clause-new
add_all-requires-2-clause-new c = λ i.
    let can = rw (← c.self.view_is) at c.requires in
    omega (
      arith,
      can.once i,
      ap (over_requests i) c.reserve-2.ensures.same,
      ap (over_requests i) c.deref-3.ensures.value,
    )

pub invariant_of-self-in_default-add : goal.invariant_of-self-in_default-add
invariant_of-self-in_default-add c =
    let s : Site = seen c.self.inside in
    let is : record s {
      locs = c.reserve.new.self.locs;
      groups = c.add.new.self.groups;
      stuck = c.add.new.self.stuck;
      requests = c.reserve-2.new.self.items;
    } ≡ s =
    ap (λ (ls : List Loc). record s {
      locs = ls;
      groups = c.add.new.self.groups;
      stuck = c.add.new.self.stuck;
      requests = c.reserve-2.new.self.items;
    }) c.reserve.ensures.same
    ∙ ap (λ (h : Shelved).
    record s { groups = h.groups; stuck = h.stuck; requests = c.reserve-2.new.self.items })
    c.in_default-add.ensures.err
    ∙ ap (λ (qs : List RequestParts). record s { requests = qs }) c.reserve-2.ensures.same in
    record {
      stored = subst IsStored (sym is) c.self.invariant.stored;
      known = subst (IsKnown c.note_all.new.known) (sym is)
          (known-later c.self.inside.known c.note_all.new.known _ s c.note_all.ensures
          c.self.invariant.known);
    }

pub invariant_of-self-2 : goal.invariant_of-self-2
invariant_of-self-2 c =
    let can =
    subst (λ (s : Site). CanAdd c.args.locs.now c.args.coming s) (sym c.self.view_is) c.requires in
    let room = subst (λ (s : Site). waiting_in s + length c.args.coming.waiting.items < 2 ^ 32)
    (sym c.self.view_is) (c.if-not-has_numbers_for.ensures.waiting refl) in
    let may = may-done c.self.inside c.args.locs.now c.args.coming c.args.fronts.now.group
    c.args.fronts.now.chans.now c.self.invariant.stored can room in
    let b : Inside = record {
      number = c.self.inside.number;
      made = c.args.coming.next;
      locs = c.add_all.new.self;
      shelves = c.add.new.self;
      requests = c.add_all-2.new.self;
      known = c.note_laid.new.known;
    } in
    let is = done-is c.self.inside b c.args.locs.now c.args.coming c.args.fronts.now.group
    c.args.fronts.now.chans.now may (record {
      number = refl;
      made = refl;
      locs = c.add_all.ensures ∙ ap (λ ls. ls ++ c.args.locs.now) c.reserve.ensures.same;
      requests = c.add_all-2.ensures
          ∙ ap (λ qs. with_requests qs c.reserve-2.new.self.items) c.deref-3.ensures.value
          ∙ ap (with_requests c.args.coming.requests.items) c.reserve-2.ensures.same;
      shelves = c.in-Ok-add.ensures.ok;
    }) in
    let noted = subst (λ (ws : List Waiting). Noted c.self.inside.known c.note_all.new.known
    (λ d. AreWithin d c.self.inside.number c.args.locs.now [] ws c.args.coming.requests.items))
    c.deref.ensures.value
    (subst (λ (qs : List RequestParts). Noted c.self.inside.known c.note_all.new.known
    (λ d. AreWithin d c.self.inside.number c.args.locs.now [] c.deref.result.now qs))
    c.deref-2.ensures.value c.note_all.ensures) in
    record {
      stored = done-stored c.self.inside b c.args.locs.now c.args.coming c.args.fronts.now.group
          c.args.fronts.now.chans.now c.self.invariant.stored can room is;
      known = known-add c.self.inside b c.note_all.new.known c.note_laid.new.known
          c.args.locs.now c.args.coming c.args.fronts.now.group c.args.fronts.now.chans.now
          c.len-laid.result (told_of c.rows-rows.result.now.groups) c.self.invariant.stored may is
          (c.len-laid.ensures ∙ c.rows.ensures.many) (ap told_in c.rows-rows.ensures.groups) noted
          c.note_laid.ensures c.self.invariant.known;
    }

pub returns-clause-ok : goal.returns-clause-ok
returns-clause-ok c =
    let can =
    subst (λ (s : Site). CanAdd c.args.locs.now c.args.coming s) (sym c.self.view_is) c.requires in
    let room = subst (λ (s : Site). waiting_in s + length c.args.coming.waiting.items < 2 ^ 32)
    (sym c.self.view_is) (c.if-not-has_numbers_for.ensures.waiting refl) in
    let may = may-done c.self.inside c.args.locs.now c.args.coming c.args.fronts.now.group
    c.args.fronts.now.chans.now c.self.invariant.stored can room in
    let b : Inside = record {
      number = c.self.inside.number;
      made = c.args.coming.next;
      locs = c.add_all.new.self;
      shelves = c.add.new.self;
      requests = c.add_all-2.new.self;
      known = c.note_laid.new.known;
    } in
    done-is c.self.inside b c.args.locs.now c.args.coming c.args.fronts.now.group
    c.args.fronts.now.chans.now may (record {
      number = refl;
      made = refl;
      locs = c.add_all.ensures ∙ ap (λ ls. ls ++ c.args.locs.now) c.reserve.ensures.same;
      requests = c.add_all-2.ensures
          ∙ ap (λ qs. with_requests qs c.reserve-2.new.self.items) c.deref-3.ensures.value
          ∙ ap (with_requests c.args.coming.requests.items) c.reserve-2.ensures.same;
      shelves = c.in-Ok-add.ensures.ok;
    })
    ∙ ap
    (λ (s : Site). added c.args.locs.now c.args.coming
    (taken_at c.args.fronts.now.group c.args.fronts.now.chans.now s))
    c.self.view_is
