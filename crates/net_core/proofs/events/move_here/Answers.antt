use Rattle.std.proofs.Common.{◌≡◌, ◌<◌, ◌≤◌, ◌+◌, ◌∙◌, ◌^◌, ℕ, List, Some, length, slice_get, refl}
use Rattle.std.proofs.Common.{sym, ap, subst, true, arith}
use Rattle.std.specs.Vec.{with_items}
use Rattle.std.proofs.lemmas.List.{with_items_is}
use Rattle.chem_model.specs.declared.event.Event.TheVariants as event
use Rattle.loc_tree.specs.Tree.{Tree}
use Rattle.net_laws.specs.Site.{Site}
use Rattle.net_laws.specs.Net.{Net}
use Rattle.net_laws.specs.Holding.{drop_request}
use Rattle.net_laws.specs.Moves.{continuation_made}
use Rattle.net_laws.specs.Meeting.{sent_here}
use Rattle.migration.specs.Moves.{can_go}
use Rattle.net_core.specs.declared.parts.Parts.{Parts}
use Rattle.net_core.specs.Acting.{Moves}
use Rattle.net_core.specs.inside.AtSites.{AllStayFit, MovesAt}
use Rattle.net_core.specs.Parts.{net_of}
use Rattle.net_core.specs.Playing.{move}
use Rattle.net_core.specs.Whole.{AllFit}
use Rattle.net_core.proofs.Carrying.{all_carry}
use Rattle.net_core.proofs.Deliveries.{as_before_net, as_before_whole, set_length}
use Rattle.net_core.proofs.Fitting.{fit_full}
use Rattle.net_core.proofs.Going.{moves_net, goal_here, can_two}
use Rattle.net_core.proofs.Handed.{continuation_few, flights_long, event_whole, stay_bare}
use Rattle.net_core.proofs.events.move_here.Goals as goal

pub move_at-requires-clause-may : goal.move_at-requires-clause-may
move_at-requires-clause-may c =
    let old = c.args.parts.now in
    let mid = c.make_room.new.parts in
    let same = c.in_ok-make_room.ensures.same in
    let i = c.args.number in
    let a = c.args.atom.now in
    let s = c.requires.may.site in
    let here : slice_get mid.sites.items i ≡ Some s =
    ap (λ (us : List Site). slice_get us i) same.sites ∙ c.requires.may.site_is in
    let can : can_go mid.version mid.tree a s ≡ true =
    ap (λ (t : Tree). can_go mid.version t a s) same.tree
    ∙ ap (λ (v : ℕ). can_go v old.tree a s) same.version ∙ c.requires.may.can in
    record {
      site = s;
      site_is = ap (λ (us : List Site). slice_get us i) c.deref_mut.ensures.value ∙ here;
      can = can_two mid.version mid.tree a s can;
      hosted = c.requires.may.hosted;
    }

pub move_at-requires-clause-fit : goal.move_at-requires-clause-fit
move_at-requires-clause-fit c =
    let old = c.args.parts.now in
    let mid = c.make_room.new.parts in
    let same = c.in_ok-make_room.ensures.same in
    let before =
    as_before_whole c.requires.whole.0 old mid c.requires.whole.1 same c.requires.whole.2 in
    let code = c.requires.whole.0 in (
      code,
      subst (λ (us : List Site). AllFit code mid.tree us) (sym c.deref_mut.ensures.value)
          (fit_full code mid.tree mid.sites.items before.running.fit),
    )

pub add_flights-requires : goal.add_flights-requires
add_flights-requires c =
    let old = c.args.parts.now in
    let mid = c.make_room.new.parts in
    let same = c.in_ok-make_room.ensures.same in
    let before =
    as_before_whole c.requires.whole.0 old mid c.requires.whole.1 same c.requires.whole.2 in
    let i = c.args.number in
    let a = c.args.atom.now in
    let s = c.requires.may.site in
    let e = c.in_ok-effects.effects in
    let here : slice_get mid.sites.items i ≡ Some s =
    ap (λ (us : List Site). slice_get us i) same.sites ∙ c.requires.may.site_is in
    let number = (before.running.some.stands.hosts i s here).number in
    let there : slice_get c.deref_mut.result.now i ≡ Some s =
    ap (λ (us : List Site). slice_get us i) c.deref_mut.ensures.value ∙ here in
    let new : Parts = record {
      version = mid.version;
      sites = with_items mid.sites c.move_at.new.sites;
      tree = c.move_at.new.tree;
      trace = mid.trace;
      flights = mid.flights;
      under_way = mid.under_way;
    } in
    let all : new.sites.items ≡ c.move_at.new.sites =
    with_items_is mid.sites c.move_at.new.sites (c.move_at.auto.sites ∙ c.deref_mut.ensures.len) in
    let moves : MovesAt c.args.counts.now mid.tree c.move_at.new.tree i a s
    mid.sites.items new.sites.items e =
    subst (λ (us : List Site).
    MovesAt c.args.counts.now mid.tree c.move_at.new.tree i a s mid.sites.items us e) (sym all)
    (subst (λ (us : List Site).
    MovesAt c.args.counts.now mid.tree c.move_at.new.tree i a s us c.move_at.new.sites e)
    c.deref_mut.ensures.value (c.in_ok-effects.ensures.ok s there)) in
    let d = moves.moves in
    let o =
    sent_here mid.tree (continuation_made c.args.counts.now s.number d.asked.loc s.made d.cont)
    (drop_request a s) in
    let long : length e.sends ≡ length o.sends = flights_long o.sends e.sends d.answers.sends in
    let one : length o.sends ≤ 1 =
    continuation_few mid.tree c.args.counts.now s.number d.asked.loc s.made d.cont
    (drop_request a s) in
    let room = c.in_ok-make_room.ensures.room in
    (omega (arith, long, one, room.flights), omega (arith, long, one, room.numbers))

pub returns-clause-moves : goal.returns-clause-moves
returns-clause-moves c =
    let old = c.args.parts.now in
    let mid = c.make_room.new.parts in
    let same = c.in_ok-make_room.ensures.same in
    let before =
    as_before_whole c.requires.whole.0 old mid c.requires.whole.1 same c.requires.whole.2 in
    let i = c.args.number in
    let a = c.args.atom.now in
    let s = c.requires.may.site in
    let e = c.in_ok-effects.effects in
    let here : slice_get mid.sites.items i ≡ Some s =
    ap (λ (us : List Site). slice_get us i) same.sites ∙ c.requires.may.site_is in
    let number = (before.running.some.stands.hosts i s here).number in
    let there : slice_get c.deref_mut.result.now i ≡ Some s =
    ap (λ (us : List Site). slice_get us i) c.deref_mut.ensures.value ∙ here in
    let new : Parts = record {
      version = mid.version;
      sites = with_items mid.sites c.move_at.new.sites;
      tree = c.move_at.new.tree;
      trace = mid.trace;
      flights = mid.flights;
      under_way = mid.under_way;
    } in
    let all : new.sites.items ≡ c.move_at.new.sites =
    with_items_is mid.sites c.move_at.new.sites (c.move_at.auto.sites ∙ c.deref_mut.ensures.len) in
    let moves : MovesAt c.args.counts.now mid.tree c.move_at.new.tree i a s
    mid.sites.items new.sites.items e =
    subst (λ (us : List Site).
    MovesAt c.args.counts.now mid.tree c.move_at.new.tree i a s mid.sites.items us e) (sym all)
    (subst (λ (us : List Site).
    MovesAt c.args.counts.now mid.tree c.move_at.new.tree i a s us c.move_at.new.sites e)
    c.deref_mut.ensures.value (c.in_ok-effects.ensures.ok s there)) in
    let d = moves.moves in
    let o =
    sent_here mid.tree (continuation_made c.args.counts.now s.number d.asked.loc s.made d.cont)
    (drop_request a s) in
    let long : length e.sends ≡ length o.sends = flights_long o.sends e.sends d.answers.sends in
    let one : length o.sends ≤ 1 =
    continuation_few mid.tree c.args.counts.now s.number d.asked.loc s.made d.cont
    (drop_request a s) in
    let room : mid.under_way + 1 < 2 ^ 32 = c.in_ok-make_room.ensures.room.numbers in
    let code = c.requires.whole.0 in
    let end : Parts = record {
      version = new.version;
      sites = new.sites;
      tree = new.tree;
      trace = c.add_piece.new.pieces;
      flights = c.add_flights.new.flights;
      under_way = c.add_flights.new.under_way;
    } in
    let can : can_go mid.version mid.tree a s ≡ true =
    ap (λ (t : Tree). can_go mid.version t a s) same.tree
    ∙ ap (λ (v : ℕ). can_go v old.tree a s) same.version ∙ c.requires.may.can in
    let goal_is : d.target.site ≡ i =
    goal_here mid.version code (net_of code.seen mid) before.running.some i a s s
    d.asked d.target d.cont here d.here d.asks can c.requires.may.hosted in
    let made : Moves (net_of c.args.counts.now mid) a (net_of c.args.counts.now end) =
    moves_net c.args.counts.now mid end refl i a s e here number can moves goal_is
    c.add_piece.ensures c.add_flights.ensures.flights in
    subst (λ (n : Net). Moves n a (net_of c.args.counts.now end))
    (as_before_net c.args.counts.now old mid same) made

pub returns-clause-whole : goal.returns-clause-whole
returns-clause-whole c = λ code events seen few whole.
    let old = c.args.parts.now in
    let mid = c.make_room.new.parts in
    let same = c.in_ok-make_room.ensures.same in
    let before = as_before_whole code old mid events same whole in
    let i = c.args.number in
    let a = c.args.atom.now in
    let s = c.requires.may.site in
    let e = c.in_ok-effects.effects in
    let here : slice_get mid.sites.items i ≡ Some s =
    ap (λ (us : List Site). slice_get us i) same.sites ∙ c.requires.may.site_is in
    let number = (before.running.some.stands.hosts i s here).number in
    let there : slice_get c.deref_mut.result.now i ≡ Some s =
    ap (λ (us : List Site). slice_get us i) c.deref_mut.ensures.value ∙ here in
    let new : Parts = record {
      version = mid.version;
      sites = with_items mid.sites c.move_at.new.sites;
      tree = c.move_at.new.tree;
      trace = mid.trace;
      flights = mid.flights;
      under_way = mid.under_way;
    } in
    let all : new.sites.items ≡ c.move_at.new.sites =
    with_items_is mid.sites c.move_at.new.sites (c.move_at.auto.sites ∙ c.deref_mut.ensures.len) in
    let moves : MovesAt c.args.counts.now mid.tree c.move_at.new.tree i a s
    mid.sites.items new.sites.items e =
    subst (λ (us : List Site).
    MovesAt c.args.counts.now mid.tree c.move_at.new.tree i a s mid.sites.items us e) (sym all)
    (subst (λ (us : List Site).
    MovesAt c.args.counts.now mid.tree c.move_at.new.tree i a s us c.move_at.new.sites e)
    c.deref_mut.ensures.value (c.in_ok-effects.ensures.ok s there)) in
    let d = moves.moves in
    let o =
    sent_here mid.tree (continuation_made c.args.counts.now s.number d.asked.loc s.made d.cont)
    (drop_request a s) in
    let long : length e.sends ≡ length o.sends = flights_long o.sends e.sends d.answers.sends in
    let one : length o.sends ≤ 1 =
    continuation_few mid.tree c.args.counts.now s.number d.asked.loc s.made d.cont
    (drop_request a s) in
    let room : mid.under_way + 1 < 2 ^ 32 = c.in_ok-make_room.ensures.room.numbers in
    let end : Parts = record {
      version = new.version;
      sites = new.sites;
      tree = new.tree;
      trace = c.add_piece.new.pieces;
      flights = c.add_flights.new.flights;
      under_way = c.add_flights.new.under_way;
    } in
    let can : can_go mid.version mid.tree a s ≡ true =
    ap (λ (t : Tree). can_go mid.version t a s) same.tree
    ∙ ap (λ (v : ℕ). can_go v old.tree a s) same.version ∙ c.requires.may.can in
    let goal_is : d.target.site ≡ i =
    goal_here mid.version code (net_of code.seen mid) before.running.some i a s s
    d.asked d.target d.cont here d.here d.asks can c.requires.may.hosted in
    let made : Moves (net_of c.args.counts.now mid) a (net_of c.args.counts.now end) =
    moves_net c.args.counts.now mid end refl i a s e here number can moves goal_is
    c.add_piece.ensures c.add_flights.ensures.flights in
    let coded : Moves (net_of code.seen mid) a (net_of code.seen end) =
    subst (λ (ks : List ℕ). Moves (net_of ks mid) a (net_of ks end)) (sym seen) made in
    let old_fit : AllFit code mid.tree c.deref_mut.result.now =
    subst (λ (us : List Site). AllFit code mid.tree us) (sym c.deref_mut.ensures.value)
    (fit_full code mid.tree mid.sites.items before.running.fit) in
    let fit : AllStayFit code end.tree end.sites.items =
    subst (λ (us : List Site). AllStayFit code end.tree us) (sym all)
    (c.in_ok-effects.ensures.fit code old_fit) in
    event_whole code mid end (event.Move a) events before few (move a _ coded)
    (stay_bare code end.tree end.sites.items fit)
    (ap length moves.sites ∙ set_length mid.sites.items i moves.after)
    e.sends (all_carry o.sends e.sends d.answers.sends).1 c.add_flights.ensures.flights
    c.add_flights.ensures.count (omega (arith, long, one, room, c.add_flights.ensures.count))
