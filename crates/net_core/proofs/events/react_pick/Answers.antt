use Rattle.std.proofs.Common.{◌≡◌, ◌≤◌, ◌∙◌, List, Some, length, slice_get, refl, sym, ap, subst}
use Rattle.std.proofs.Common.{arith}
use Rattle.std.specs.Vec.{with_items}
use Rattle.std.proofs.lemmas.List.{with_items_is}
use Rattle.loc_tree.specs.Tree.{Tree, bare}
use Rattle.net_laws.specs.Site.{Site}
use Rattle.net_laws.specs.Net.{Net, with_births}
use Rattle.net_laws.specs.Opened.{AreNew}
use Rattle.reducer.specs.Picks.{Fires}
use Rattle.reducer.specs.Reacting.{ran_by, outcome_of}
use Rattle.net_core.specs.declared.parts.Parts.{Parts}
use Rattle.net_core.specs.Acting.{Reacts}
use Rattle.net_core.specs.inside.AtSites.{AllStayFit, ReactsAt}
use Rattle.net_core.specs.Parts.{net_of}
use Rattle.net_core.specs.Playing.{react}
use Rattle.net_core.specs.Whole.{AllFit}
use Rattle.net_core.proofs.Carrying.{all_carry}
use Rattle.net_core.proofs.Deliveries.{as_before_net, as_before_whole, set_length}
use Rattle.net_core.proofs.Fitting.{fit_full, fits_at}
use Rattle.site_turn.proofs.Room.{births_bare}
use Rattle.net_core.proofs.Handed.{flights_long, event_whole, stay_bare}
use Rattle.net_core.proofs.Reaching.{fires_bare, fires_full, births_counted, sends_counted}
use Rattle.net_core.proofs.Reaching.{reacts_net, births_new, react_fit, root_below, are_numbered}
use Rattle.net_core.proofs.events.react_pick.Goals as goal

pub react_at-requires-clause-fit : goal.react_at-requires-clause-fit
react_at-requires-clause-fit c =
    let code = c.args.code.now in
    let old = c.args.parts.now in
    let mid = c.make_room.new.parts in
    let same = c.in_ok-make_room.ensures.same in
    let before = as_before_whole code old mid c.requires.whole.0 same c.requires.whole.1 in
    let fit = fit_full code mid.tree mid.sites.items before.running.fit in
    subst (λ (us : List Site). AllFit code mid.tree us) (sym c.deref_mut.ensures.value) fit

pub add_births-requires-clause-new : goal.add_births-requires-clause-new
add_births-requires-clause-new c =
    let code = c.args.code.now in
    let old = c.args.parts.now in
    let mid = c.make_room.new.parts in
    let same = c.in_ok-make_room.ensures.same in
    let before = as_before_whole code old mid c.requires.whole.0 same c.requires.whole.1 in
    let fit = fit_full code mid.tree mid.sites.items before.running.fit in
    let i = c.args.number in
    let p = c.args.pick.now in
    let s = c.requires.may.site in
    let x = c.requires.may.pick in
    let picks = c.requires.may.fires.covers.picks in
    let fires : Fires code mid.tree s p x =
    fires_full code mid.tree s p x (subst (λ (t : Tree). Fires code t s p x) (sym same.tree)
    (fires_bare code old.tree s p x c.requires.may.fires)) in
    let here : slice_get mid.sites.items i ≡ Some s =
    ap (λ (us : List Site). slice_get us i) same.sites ∙ c.requires.may.site_is in
    let number = (before.running.some.stands.hosts i s here).number in
    let e = c.in_ok-event.effects in
    let there : slice_get c.deref_mut.result.now i ≡ Some s =
    ap (λ (us : List Site). slice_get us i) c.deref_mut.ensures.value ∙ here in
    let does : ReactsAt code mid.tree i p s x
    mid.sites.items c.react_at.new.sites c.in_ok-event.event e =
    subst (λ (us : List Site).
    ReactsAt code mid.tree i p s x us c.react_at.new.sites c.in_ok-event.event e)
    c.deref_mut.ensures.value (c.in_ok-event.ensures.ok s x there picks) in
    let all : (with_items mid.sites c.react_at.new.sites).items ≡ c.react_at.new.sites =
    with_items_is mid.sites c.react_at.new.sites
    (c.react_at.auto.sites ∙ c.deref_mut.ensures.len) in
    let reacts : ReactsAt code mid.tree i p s x
    mid.sites.items (with_items mid.sites c.react_at.new.sites).items c.in_ok-event.event e =
    subst
    (λ (us : List Site). ReactsAt code mid.tree i p s x mid.sites.items us c.in_ok-event.event e)
    (sym all) does in
    let half : Parts = record {
      version = mid.version;
      sites = with_items mid.sites c.react_at.new.sites;
      tree = mid.tree;
      trace = mid.trace;
      flights = mid.flights;
      under_way = mid.under_way;
    } in
    subst (AreNew mid.tree i) (sym c.as_slice-2.ensures.members)
    (births_new code before.running.code mid half before.running.some i s p x here number fires
    c.in_ok-event.event e reacts)

pub add_births-requires-clause-room : goal.add_births-requires-clause-room
add_births-requires-clause-room c =
    let code = c.args.code.now in
    let old = c.args.parts.now in
    let mid = c.make_room.new.parts in
    let same = c.in_ok-make_room.ensures.same in
    let before = as_before_whole code old mid c.requires.whole.0 same c.requires.whole.1 in
    let fit = fit_full code mid.tree mid.sites.items before.running.fit in
    let i = c.args.number in
    let p = c.args.pick.now in
    let s = c.requires.may.site in
    let x = c.requires.may.pick in
    let picks = c.requires.may.fires.covers.picks in
    let fires : Fires code mid.tree s p x =
    fires_full code mid.tree s p x (subst (λ (t : Tree). Fires code t s p x) (sym same.tree)
    (fires_bare code old.tree s p x c.requires.may.fires)) in
    let here : slice_get mid.sites.items i ≡ Some s =
    ap (λ (us : List Site). slice_get us i) same.sites ∙ c.requires.may.site_is in
    let number = (before.running.some.stands.hosts i s here).number in
    let e = c.in_ok-event.effects in
    let there : slice_get c.deref_mut.result.now i ≡ Some s =
    ap (λ (us : List Site). slice_get us i) c.deref_mut.ensures.value ∙ here in
    let does : ReactsAt code mid.tree i p s x
    mid.sites.items c.react_at.new.sites c.in_ok-event.event e =
    subst (λ (us : List Site).
    ReactsAt code mid.tree i p s x us c.react_at.new.sites c.in_ok-event.event e)
    c.deref_mut.ensures.value (c.in_ok-event.ensures.ok s x there picks) in
    let weights = c.weigh-born.ensures s x
    (ap (λ (us : List Site). slice_get us i) c.as_slice.ensures.value ∙ c.requires.may.site_is)
    picks in
    let coded =
    (fits_at code (bare mid.tree) mid.sites.items i s before.running.fit here).in_code in
    let full = fires_bare code mid.tree s p x fires in
    let many : length (ran_by code s x).births ≡ x.guard.births =
    births_counted code before.running.code (net_of code.seen mid) before.running.some i s p x here
    full coded in
    let long : length e.births ≡ length (ran_by code s x).births = ap length does.reacts.births in
    let shown : length c.as_slice-2.result.now ≡ length e.births =
    ap length c.as_slice-2.ensures.members in
    omega (arith, many, long, shown, weights.0, c.in_ok-make_room.ensures.room.spare)

pub add_births-requires-clause-site : goal.add_births-requires-clause-site
add_births-requires-clause-site c =
    let code = c.args.code.now in
    let old = c.args.parts.now in
    let mid = c.make_room.new.parts in
    let same = c.in_ok-make_room.ensures.same in
    let before = as_before_whole code old mid c.requires.whole.0 same c.requires.whole.1 in
    let fit = fit_full code mid.tree mid.sites.items before.running.fit in
    let i = c.args.number in
    let p = c.args.pick.now in
    let s = c.requires.may.site in
    let x = c.requires.may.pick in
    let picks = c.requires.may.fires.covers.picks in
    let fires : Fires code mid.tree s p x =
    fires_full code mid.tree s p x (subst (λ (t : Tree). Fires code t s p x) (sym same.tree)
    (fires_bare code old.tree s p x c.requires.may.fires)) in
    let here : slice_get mid.sites.items i ≡ Some s =
    ap (λ (us : List Site). slice_get us i) same.sites ∙ c.requires.may.site_is in
    let number = (before.running.some.stands.hosts i s here).number in
    let e = c.in_ok-event.effects in
    let there : slice_get c.deref_mut.result.now i ≡ Some s =
    ap (λ (us : List Site). slice_get us i) c.deref_mut.ensures.value ∙ here in
    let does : ReactsAt code mid.tree i p s x
    mid.sites.items c.react_at.new.sites c.in_ok-event.event e =
    subst (λ (us : List Site).
    ReactsAt code mid.tree i p s x us c.react_at.new.sites c.in_ok-event.event e)
    c.deref_mut.ensures.value (c.in_ok-event.ensures.ok s x there picks) in
    root_below code (net_of code.seen mid) i s before.running.some here

pub add_flights-requires : goal.add_flights-requires
add_flights-requires c =
    let code = c.args.code.now in
    let old = c.args.parts.now in
    let mid = c.make_room.new.parts in
    let same = c.in_ok-make_room.ensures.same in
    let before = as_before_whole code old mid c.requires.whole.0 same c.requires.whole.1 in
    let fit = fit_full code mid.tree mid.sites.items before.running.fit in
    let i = c.args.number in
    let p = c.args.pick.now in
    let s = c.requires.may.site in
    let x = c.requires.may.pick in
    let picks = c.requires.may.fires.covers.picks in
    let fires : Fires code mid.tree s p x =
    fires_full code mid.tree s p x (subst (λ (t : Tree). Fires code t s p x) (sym same.tree)
    (fires_bare code old.tree s p x c.requires.may.fires)) in
    let here : slice_get mid.sites.items i ≡ Some s =
    ap (λ (us : List Site). slice_get us i) same.sites ∙ c.requires.may.site_is in
    let number = (before.running.some.stands.hosts i s here).number in
    let e = c.in_ok-event.effects in
    let there : slice_get c.deref_mut.result.now i ≡ Some s =
    ap (λ (us : List Site). slice_get us i) c.deref_mut.ensures.value ∙ here in
    let does : ReactsAt code mid.tree i p s x
    mid.sites.items c.react_at.new.sites c.in_ok-event.event e =
    subst (λ (us : List Site).
    ReactsAt code mid.tree i p s x us c.react_at.new.sites c.in_ok-event.event e)
    c.deref_mut.ensures.value (c.in_ok-event.ensures.ok s x there picks) in
    let weights = c.weigh-born.ensures s x
    (ap (λ (us : List Site). slice_get us i) c.as_slice.ensures.value ∙ c.requires.may.site_is)
    picks in
    let coded =
    (fits_at code (bare mid.tree) mid.sites.items i s before.running.fit here).in_code in
    let full = fires_bare code mid.tree s p x fires in
    let o = outcome_of code mid.tree s p x in
    let few : length o.sends ≤ x.guard.sends =
    sends_counted code before.running.code (net_of code.seen mid) before.running.some i s p x here
    full coded mid.tree in
    let long : length e.sends ≡ length o.sends = flights_long o.sends e.sends does.reacts.sends in
    let room = c.in_ok-make_room.ensures.room in (
      omega (arith, few, long, weights.1, room.flights),
      omega (arith, few, long, weights.1, room.numbers),
    )

pub returns-clause-reacts : goal.returns-clause-reacts
returns-clause-reacts c =
    let code = c.args.code.now in
    let old = c.args.parts.now in
    let mid = c.make_room.new.parts in
    let same = c.in_ok-make_room.ensures.same in
    let before = as_before_whole code old mid c.requires.whole.0 same c.requires.whole.1 in
    let fit = fit_full code mid.tree mid.sites.items before.running.fit in
    let i = c.args.number in
    let p = c.args.pick.now in
    let s = c.requires.may.site in
    let x = c.requires.may.pick in
    let picks = c.requires.may.fires.covers.picks in
    let fires : Fires code mid.tree s p x =
    fires_full code mid.tree s p x (subst (λ (t : Tree). Fires code t s p x) (sym same.tree)
    (fires_bare code old.tree s p x c.requires.may.fires)) in
    let here : slice_get mid.sites.items i ≡ Some s =
    ap (λ (us : List Site). slice_get us i) same.sites ∙ c.requires.may.site_is in
    let number = (before.running.some.stands.hosts i s here).number in
    let e = c.in_ok-event.effects in
    let there : slice_get c.deref_mut.result.now i ≡ Some s =
    ap (λ (us : List Site). slice_get us i) c.deref_mut.ensures.value ∙ here in
    let does : ReactsAt code mid.tree i p s x
    mid.sites.items c.react_at.new.sites c.in_ok-event.event e =
    subst (λ (us : List Site).
    ReactsAt code mid.tree i p s x us c.react_at.new.sites c.in_ok-event.event e)
    c.deref_mut.ensures.value (c.in_ok-event.ensures.ok s x there picks) in
    let all : (with_items mid.sites c.react_at.new.sites).items ≡ c.react_at.new.sites =
    with_items_is mid.sites c.react_at.new.sites
    (c.react_at.auto.sites ∙ c.deref_mut.ensures.len) in
    let reacts : ReactsAt code mid.tree i p s x
    mid.sites.items (with_items mid.sites c.react_at.new.sites).items c.in_ok-event.event e =
    subst
    (λ (us : List Site). ReactsAt code mid.tree i p s x mid.sites.items us c.in_ok-event.event e)
    (sym all) does in
    let new : Parts = record {
      version = mid.version;
      sites = with_items mid.sites c.react_at.new.sites;
      tree = c.add_births.new.tree;
      trace = c.add_piece.new.pieces;
      flights = c.add_flights.new.flights;
      under_way = c.add_flights.new.under_way;
    } in
    let tree : new.tree ≡ with_births mid.tree i e.births =
    c.add_births.ensures ∙ ap (with_births mid.tree i) c.as_slice-2.ensures.members in
    let made : Reacts code (net_of code.seen mid) i
    p.group p.guard c.in_ok-event.event (net_of code.seen new) =
    reacts_net code before.running.code mid new before.running.some i s p x here number fires
    c.in_ok-event.event e reacts refl
    (ap bare tree ∙ sym (births_bare mid.tree i e.births))
    c.add_piece.ensures c.add_flights.ensures.flights in
    subst (λ (n : Net). Reacts code n i p.group p.guard c.in_ok-event.event (net_of code.seen new))
    (as_before_net code.seen old mid same) made

pub returns-clause-whole : goal.returns-clause-whole
returns-clause-whole c = λ events few whole.
    let code = c.args.code.now in
    let old = c.args.parts.now in
    let mid = c.make_room.new.parts in
    let same = c.in_ok-make_room.ensures.same in
    let before = as_before_whole code old mid events same whole in
    let fit = fit_full code mid.tree mid.sites.items before.running.fit in
    let i = c.args.number in
    let p = c.args.pick.now in
    let s = c.requires.may.site in
    let x = c.requires.may.pick in
    let picks = c.requires.may.fires.covers.picks in
    let fires : Fires code mid.tree s p x =
    fires_full code mid.tree s p x (subst (λ (t : Tree). Fires code t s p x) (sym same.tree)
    (fires_bare code old.tree s p x c.requires.may.fires)) in
    let here : slice_get mid.sites.items i ≡ Some s =
    ap (λ (us : List Site). slice_get us i) same.sites ∙ c.requires.may.site_is in
    let number = (before.running.some.stands.hosts i s here).number in
    let e = c.in_ok-event.effects in
    let there : slice_get c.deref_mut.result.now i ≡ Some s =
    ap (λ (us : List Site). slice_get us i) c.deref_mut.ensures.value ∙ here in
    let does : ReactsAt code mid.tree i p s x
    mid.sites.items c.react_at.new.sites c.in_ok-event.event e =
    subst (λ (us : List Site).
    ReactsAt code mid.tree i p s x us c.react_at.new.sites c.in_ok-event.event e)
    c.deref_mut.ensures.value (c.in_ok-event.ensures.ok s x there picks) in
    let all : (with_items mid.sites c.react_at.new.sites).items ≡ c.react_at.new.sites =
    with_items_is mid.sites c.react_at.new.sites
    (c.react_at.auto.sites ∙ c.deref_mut.ensures.len) in
    let reacts : ReactsAt code mid.tree i p s x
    mid.sites.items (with_items mid.sites c.react_at.new.sites).items c.in_ok-event.event e =
    subst
    (λ (us : List Site). ReactsAt code mid.tree i p s x mid.sites.items us c.in_ok-event.event e)
    (sym all) does in
    let new : Parts = record {
      version = mid.version;
      sites = with_items mid.sites c.react_at.new.sites;
      tree = c.add_births.new.tree;
      trace = c.add_piece.new.pieces;
      flights = c.add_flights.new.flights;
      under_way = c.add_flights.new.under_way;
    } in
    let tree : new.tree ≡ with_births mid.tree i e.births =
    c.add_births.ensures ∙ ap (with_births mid.tree i) c.as_slice-2.ensures.members in
    let made : Reacts code (net_of code.seen mid) i
    p.group p.guard c.in_ok-event.event (net_of code.seen new) =
    reacts_net code before.running.code mid new before.running.some i s p x here number fires
    c.in_ok-event.event e reacts refl
    (ap bare tree ∙ sym (births_bare mid.tree i e.births))
    c.add_piece.ensures c.add_flights.ensures.flights in
    let weights = c.weigh-born.ensures s x
    (ap (λ (us : List Site). slice_get us i) c.as_slice.ensures.value ∙ c.requires.may.site_is)
    picks in
    let coded =
    (fits_at code (bare mid.tree) mid.sites.items i s before.running.fit here).in_code in
    let full = fires_bare code mid.tree s p x fires in
    let o = outcome_of code mid.tree s p x in
    let sent : length o.sends ≤ x.guard.sends =
    sends_counted code before.running.code (net_of code.seen mid) before.running.some i s p x here
    full coded mid.tree in
    let long : length e.sends ≡ length o.sends = flights_long o.sends e.sends does.reacts.sends in
    let kept : AllStayFit code (with_births mid.tree i e.births) new.sites.items =
    react_fit code mid.tree mid.sites.items i p s x new.sites.items c.in_ok-event.event e
    (are_numbered code (net_of code.seen mid) before.running.some) fit number reacts in
    let after : AllStayFit code new.tree new.sites.items =
    subst (λ (t : Tree). AllStayFit code t new.sites.items) (sym tree) kept in
    event_whole code mid new c.in_ok-event.event events before few
    (react i p.group p.guard c.in_ok-event.event _ made)
    (stay_bare code new.tree new.sites.items after)
    (ap length reacts.sites ∙ set_length mid.sites.items i reacts.after)
    e.sends (all_carry o.sends e.sends does.reacts.sends).1 c.add_flights.ensures.flights
    c.add_flights.ensures.count
    (omega (
      arith,
      sent,
      long,
      weights.1,
      c.in_ok-make_room.ensures.room.numbers,
      c.add_flights.ensures.count,
    ))
