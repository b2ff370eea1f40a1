use Rattle.std.proofs.Common.{◌≡◌, ◌<◌, ◌≤◌, ◌+◌, ◌∙◌, ◌^◌, ℕ, List, Some, length, slice_get, sym}
use Rattle.std.proofs.Common.{ap, subst, refl, true, arith}
use Rattle.std.specs.Prelude.{is_some}
use Rattle.std.specs.Vec.{with_items}
use Rattle.std.proofs.lemmas.List.{with_items_is}
use Rattle.chem_model.specs.declared.event.Event.TheVariants as event
use Rattle.loc_tree.specs.Tree.{Tree}
use Rattle.net_laws.specs.Site.{Site}
use Rattle.net_laws.specs.Net.{Net}
use Rattle.net_laws.specs.Holding.{drop_request}
use Rattle.net_laws.specs.Moves.{continuation_made}
use Rattle.net_laws.specs.Meeting.{sent_here}
use Rattle.failure.specs.Deaths.{dead_for}
use Rattle.net_core.specs.declared.parts.Parts.{Parts}
use Rattle.net_core.specs.Acting.{Detects}
use Rattle.net_core.specs.inside.AtSites.{AllStayFit, DetectsAt}
use Rattle.net_core.specs.Parts.{net_of}
use Rattle.net_core.specs.Playing.{detect}
use Rattle.net_core.specs.Whole.{AllFit}
use Rattle.net_core.proofs.Carrying.{all_carry}
use Rattle.net_core.proofs.Deliveries.{as_before_net, as_before_whole, set_length}
use Rattle.net_core.proofs.Fitting.{fit_full}
use Rattle.net_core.proofs.Handed.{continuation_few, flights_long, detects_net, event_whole}
use Rattle.net_core.proofs.Handed.{stay_bare}
use Rattle.net_core.proofs.events.detect_request.Goals as goal

pub detect_at-requires-clause-fit : goal.detect_at-requires-clause-fit
detect_at-requires-clause-fit c =
    let mid = c.make_room.new.parts in
    let same = c.in_ok-make_room.ensures.same in
    let code = c.requires.whole.0 in
    let whole =
    as_before_whole code c.args.parts.now mid c.requires.whole.1 same c.requires.whole.2 in (
      code,
      subst (λ (us : List Site). AllFit code mid.tree us) (sym c.deref_mut.ensures.value)
          (fit_full code mid.tree mid.sites.items whole.running.fit),
    )

pub add_flights-requires : goal.add_flights-requires
add_flights-requires c =
    let mid = c.make_room.new.parts in
    let same = c.in_ok-make_room.ensures.same in
    let s = c.requires.may.site in
    let here : slice_get mid.sites.items c.args.number ≡ Some s =
    ap (λ (us : List Site). slice_get us c.args.number) same.sites ∙ c.requires.may.site_is in
    let there : slice_get c.deref_mut.result.now c.args.number ≡ Some s =
    ap (λ (us : List Site). slice_get us c.args.number) c.deref_mut.ensures.value ∙ here in
    let does = c.in_ok-effects.ensures.ok s there in
    let d = does.detects in
    let o =
    sent_here mid.tree (continuation_made c.args.counts.now s.number d.asked.loc s.made d.cont)
    (drop_request c.args.atom.now s) in
    let long : length c.in_ok-effects.effects.sends ≡ length o.sends =
    flights_long o.sends c.in_ok-effects.effects.sends d.answers.sends in
    let few : length o.sends ≤ 1 =
    continuation_few mid.tree c.args.counts.now s.number d.asked.loc s.made d.cont
    (drop_request c.args.atom.now s) in
    let room = c.in_ok-make_room.ensures.room in
    (omega (arith, long, few, room.flights), omega (arith, long, few, room.numbers))

pub returns-clause-detects : goal.returns-clause-detects
returns-clause-detects c =
    let mid = c.make_room.new.parts in
    let same = c.in_ok-make_room.ensures.same in
    let s = c.requires.may.site in
    let here : slice_get mid.sites.items c.args.number ≡ Some s =
    ap (λ (us : List Site). slice_get us c.args.number) same.sites ∙ c.requires.may.site_is in
    let there : slice_get c.deref_mut.result.now c.args.number ≡ Some s =
    ap (λ (us : List Site). slice_get us c.args.number) c.deref_mut.ensures.value ∙ here in
    let does = c.in_ok-effects.ensures.ok s there in
    let e = c.in_ok-effects.effects in
    let new : Parts = record {
      version = mid.version;
      sites = with_items mid.sites c.detect_at.new.sites;
      tree = mid.tree;
      trace = c.add_piece.new.pieces;
      flights = c.add_flights.new.flights;
      under_way = c.add_flights.new.under_way;
    } in
    let all : new.sites.items ≡ c.detect_at.new.sites =
    with_items_is mid.sites c.detect_at.new.sites
    (c.detect_at.auto.sites ∙ c.deref_mut.ensures.len) in
    let detects : DetectsAt c.args.counts.now mid.tree c.args.number c.args.atom.now s
    mid.sites.items new.sites.items e =
    subst (λ (us : List Site).
    DetectsAt c.args.counts.now mid.tree c.args.number c.args.atom.now s mid.sites.items us e)
    (sym all)
    (subst (λ (us : List Site).
    DetectsAt c.args.counts.now mid.tree c.args.number c.args.atom.now s us c.detect_at.new.sites e)
    c.deref_mut.ensures.value does) in
    let can : is_some (dead_for mid.tree c.args.atom.now s) ≡ true =
    ap (λ (t : Tree). is_some (dead_for t c.args.atom.now s)) same.tree ∙ c.requires.may.can in
    let number = (as_before_whole c.requires.whole.0 c.args.parts.now mid c.requires.whole.1 same
    c.requires.whole.2).running.some.stands.hosts c.args.number s here in
    subst (λ (n : Net). Detects n c.args.atom.now (net_of c.args.counts.now new))
    (as_before_net c.args.counts.now c.args.parts.now mid same)
    (detects_net c.args.counts.now mid new refl c.args.number c.args.atom.now s e here
    number.number can detects refl c.add_piece.ensures c.add_flights.ensures.flights)

pub returns-clause-whole : goal.returns-clause-whole
returns-clause-whole c = λ code events seen few whole.
    let mid = c.make_room.new.parts in
    let same = c.in_ok-make_room.ensures.same in
    let s = c.requires.may.site in
    let here : slice_get mid.sites.items c.args.number ≡ Some s =
    ap (λ (us : List Site). slice_get us c.args.number) same.sites ∙ c.requires.may.site_is in
    let there : slice_get c.deref_mut.result.now c.args.number ≡ Some s =
    ap (λ (us : List Site). slice_get us c.args.number) c.deref_mut.ensures.value ∙ here in
    let does = c.in_ok-effects.ensures.ok s there in
    let e = c.in_ok-effects.effects in
    let new : Parts = record {
      version = mid.version;
      sites = with_items mid.sites c.detect_at.new.sites;
      tree = mid.tree;
      trace = c.add_piece.new.pieces;
      flights = c.add_flights.new.flights;
      under_way = c.add_flights.new.under_way;
    } in
    let all : new.sites.items ≡ c.detect_at.new.sites =
    with_items_is mid.sites c.detect_at.new.sites
    (c.detect_at.auto.sites ∙ c.deref_mut.ensures.len) in
    let detects : DetectsAt c.args.counts.now mid.tree c.args.number c.args.atom.now s
    mid.sites.items new.sites.items e =
    subst (λ (us : List Site).
    DetectsAt c.args.counts.now mid.tree c.args.number c.args.atom.now s mid.sites.items us e)
    (sym all)
    (subst (λ (us : List Site).
    DetectsAt c.args.counts.now mid.tree c.args.number c.args.atom.now s us c.detect_at.new.sites e)
    c.deref_mut.ensures.value does) in
    let can : is_some (dead_for mid.tree c.args.atom.now s) ≡ true =
    ap (λ (t : Tree). is_some (dead_for t c.args.atom.now s)) same.tree ∙ c.requires.may.can in
    let before = as_before_whole code c.args.parts.now mid events same whole in
    let number = before.running.some.stands.hosts c.args.number s here in
    let made : Detects (net_of code.seen mid) c.args.atom.now (net_of code.seen new) =
    subst (λ (ks : List ℕ). Detects (net_of ks mid) c.args.atom.now (net_of ks new)) (sym seen)
    (detects_net c.args.counts.now mid new refl c.args.number c.args.atom.now s e here
    number.number can detects refl c.add_piece.ensures c.add_flights.ensures.flights) in
    let old_fit : AllFit code mid.tree c.deref_mut.result.now =
    subst (λ (us : List Site). AllFit code mid.tree us) (sym c.deref_mut.ensures.value)
    (fit_full code mid.tree mid.sites.items before.running.fit) in
    let fit : AllStayFit code mid.tree new.sites.items =
    subst (λ (us : List Site). AllStayFit code mid.tree us) (sym all)
    (c.in_ok-effects.ensures.fit code old_fit) in
    let d = detects.detects in
    let o =
    sent_here mid.tree (continuation_made c.args.counts.now s.number d.asked.loc s.made d.cont)
    (drop_request c.args.atom.now s) in
    event_whole code mid new (event.Detect c.args.atom.now) events before few
    (detect c.args.atom.now _ made) (stay_bare code mid.tree new.sites.items fit)
    (ap length detects.sites ∙ set_length mid.sites.items c.args.number detects.after)
    e.sends (all_carry o.sends e.sends d.answers.sends).1 c.add_flights.ensures.flights
    c.add_flights.ensures.count
    (let long : length e.sends ≡ length o.sends = flights_long o.sends e.sends d.answers.sends in
    let one : length o.sends ≤ 1 =
    continuation_few mid.tree c.args.counts.now s.number d.asked.loc s.made d.cont
    (drop_request c.args.atom.now s) in
    let room : mid.under_way + 1 < 2 ^ 32 = c.in_ok-make_room.ensures.room.numbers in
    omega (arith, long, one, room, c.add_flights.ensures.count))
