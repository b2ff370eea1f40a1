use Rattle.std.proofs.Common.{◌≡◌, ℕ, ◌<◌, ◌≤◌, ◌+◌, ◌∙◌, ◌^◌, List, Some, length, slice_get, refl}
use Rattle.std.proofs.Common.{sym, ap, subst, true, arith}
use Rattle.std.specs.Vec.{with_items}
use Rattle.std.specs.Prelude.{slice_set}
use Rattle.std.proofs.lemmas.List.{with_items_is}
use Rattle.chem_model.specs.declared.event.Event.TheVariants as event
use Rattle.loc_tree.specs.Tree.{Tree, is_alive}
use Rattle.net_laws.specs.Site.{Site}
use Rattle.net_laws.specs.Net.{Net}
use Rattle.net_laws.specs.Holding.{drop_request}
use Rattle.net_laws.specs.Parcels.{pack, take_in}
use Rattle.net_laws.specs.Moves.{moved_made}
use Rattle.net_laws.specs.Meeting.{sent_here}
use Rattle.migration.specs.Moves.{can_go}
use Rattle.net_core.specs.declared.parts.Parts.{Parts}
use Rattle.net_core.specs.Acting.{Moves}
use Rattle.net_core.specs.inside.AtSites.{AllStayFit, CrossesAt}
use Rattle.net_core.specs.Parts.{net_of}
use Rattle.net_core.specs.Playing.{move}
use Rattle.net_core.specs.Whole.{AllFit}
use Rattle.net_core.proofs.Carrying.{all_carry}
use Rattle.net_core.proofs.Deliveries.{as_before_net, as_before_whole, set_length}
use Rattle.net_core.proofs.Fitting.{fit_full}
use Rattle.net_core.proofs.Going.{crosses_net, goal_here, can_two}
use Rattle.net_core.proofs.Handed.{moved_few, flights_long, event_whole, stay_bare}
use Rattle.net_core.proofs.Reaching.{are_numbered}
use Rattle.net_core.proofs.events.move_over.Goals as goal

pub cross-requires-clause-may : goal.cross-requires-clause-may
cross-requires-clause-may c =
    let old = c.args.parts.now in
    let mid = c.make_room.new.parts in
    let same = c.in_ok-make_room.ensures.same in
    let may = c.requires.may in
    let i = c.args.from in
    let j = c.args.into in
    let a = c.args.atom.now in
    let here : slice_get mid.sites.items i ≡ Some may.from =
    ap (λ (us : List Site). slice_get us i) same.sites ∙ may.from_is in
    let there : slice_get mid.sites.items j ≡ Some may.into =
    ap (λ (us : List Site). slice_get us j) same.sites ∙ may.into_is in
    let can : can_go mid.version mid.tree a may.from ≡ true =
    ap (λ (t : Tree). can_go mid.version t a may.from) same.tree
    ∙ ap (λ (v : ℕ). can_go v old.tree a may.from) same.version ∙ may.can in
    record {
      from = may.from;
      into = may.into;
      from_is = ap (λ (us : List Site). slice_get us i) c.deref_mut.ensures.value ∙ here;
      into_is = ap (λ (us : List Site). slice_get us j) c.deref_mut.ensures.value ∙ there;
      away = may.away;
      can = can_two mid.version mid.tree a may.from can;
      hosted = may.hosted;
      joins = may.joins;
    }

pub cross-requires-clause-fit : goal.cross-requires-clause-fit
cross-requires-clause-fit c =
    let code = c.args.code.now in
    let old = c.args.parts.now in
    let mid = c.make_room.new.parts in
    let same = c.in_ok-make_room.ensures.same in
    let before = as_before_whole code old mid c.requires.whole.0 same c.requires.whole.1 in
    let old_fit : AllFit code mid.tree c.deref_mut.result.now =
    subst (λ (us : List Site). AllFit code mid.tree us) (sym c.deref_mut.ensures.value)
    (fit_full code mid.tree mid.sites.items before.running.fit) in
    old_fit

pub cross-requires-clause-numbered : goal.cross-requires-clause-numbered
cross-requires-clause-numbered c =
    let code = c.args.code.now in
    let old = c.args.parts.now in
    let mid = c.make_room.new.parts in
    let same = c.in_ok-make_room.ensures.same in
    let before = as_before_whole code old mid c.requires.whole.0 same c.requires.whole.1 in
    let old_fit : AllFit code mid.tree c.deref_mut.result.now =
    subst (λ (us : List Site). AllFit code mid.tree us) (sym c.deref_mut.ensures.value)
    (fit_full code mid.tree mid.sites.items before.running.fit) in
    λ j s at. are_numbered code (net_of code.seen mid) before.running.some j s
    (ap (λ (us : List Site). slice_get us j) (sym c.deref_mut.ensures.value) ∙ at)

pub add_flights-requires : goal.add_flights-requires
add_flights-requires c =
    let code = c.args.code.now in
    let old = c.args.parts.now in
    let mid = c.make_room.new.parts in
    let same = c.in_ok-make_room.ensures.same in
    let before = as_before_whole code old mid c.requires.whole.0 same c.requires.whole.1 in
    let old_fit : AllFit code mid.tree c.deref_mut.result.now =
    subst (λ (us : List Site). AllFit code mid.tree us) (sym c.deref_mut.ensures.value)
    (fit_full code mid.tree mid.sites.items before.running.fit) in
    let i = c.args.from in
    let j = c.args.into in
    let a = c.args.atom.now in
    let s = c.requires.may.from in
    let u = c.requires.may.into in
    let e = c.in_ok-effects.effects in
    let here : slice_get mid.sites.items i ≡ Some s =
    ap (λ (us : List Site). slice_get us i) same.sites ∙ c.requires.may.from_is in
    let there : slice_get mid.sites.items j ≡ Some u =
    ap (λ (us : List Site). slice_get us j) same.sites ∙ c.requires.may.into_is in
    let number = (before.running.some.stands.hosts j u there).number in
    let first : slice_get c.deref_mut.result.now i ≡ Some s =
    ap (λ (us : List Site). slice_get us i) c.deref_mut.ensures.value ∙ here in
    let second : slice_get c.deref_mut.result.now j ≡ Some u =
    ap (λ (us : List Site). slice_get us j) c.deref_mut.ensures.value ∙ there in
    let new : Parts = record {
      version = mid.version;
      sites = with_items mid.sites c.cross.new.sites;
      tree = c.cross.new.tree;
      trace = mid.trace;
      flights = mid.flights;
      under_way = mid.under_way;
    } in
    let all : new.sites.items ≡ c.cross.new.sites =
    with_items_is mid.sites c.cross.new.sites (c.cross.auto.sites ∙ c.deref_mut.ensures.len) in
    let moves : CrossesAt code.seen mid.tree c.cross.new.tree i j a s u
    mid.sites.items new.sites.items e =
    subst (λ (us : List Site).
    CrossesAt code.seen mid.tree c.cross.new.tree i j a s u mid.sites.items us e) (sym all)
    (subst (λ (us : List Site).
    CrossesAt code.seen mid.tree c.cross.new.tree i j a s u us c.cross.new.sites e)
    c.deref_mut.ensures.value (c.in_ok-effects.ensures.ok s u first second)) in
    let d = moves.moves in
    let load = take_in (pack d.asked.loc (drop_request a s)) u in
    let o = sent_here c.cross.new.tree
    (moved_made (is_alive mid.tree d.target) code.seen u.number d.asked.loc u.made d.cont) load in
    let long : length e.sends ≡ length o.sends = flights_long o.sends e.sends d.answers.sends in
    let one : length o.sends ≤ 1 =
    moved_few c.cross.new.tree (is_alive mid.tree d.target)
    code.seen u.number d.asked.loc u.made d.cont load in
    let room = c.in_ok-make_room.ensures.room in
    (omega (arith, long, one, room.flights), omega (arith, long, one, room.numbers))

pub returns-clause-moves : goal.returns-clause-moves
returns-clause-moves c =
    let code = c.args.code.now in
    let old = c.args.parts.now in
    let mid = c.make_room.new.parts in
    let same = c.in_ok-make_room.ensures.same in
    let before = as_before_whole code old mid c.requires.whole.0 same c.requires.whole.1 in
    let old_fit : AllFit code mid.tree c.deref_mut.result.now =
    subst (λ (us : List Site). AllFit code mid.tree us) (sym c.deref_mut.ensures.value)
    (fit_full code mid.tree mid.sites.items before.running.fit) in
    let i = c.args.from in
    let j = c.args.into in
    let a = c.args.atom.now in
    let s = c.requires.may.from in
    let u = c.requires.may.into in
    let e = c.in_ok-effects.effects in
    let here : slice_get mid.sites.items i ≡ Some s =
    ap (λ (us : List Site). slice_get us i) same.sites ∙ c.requires.may.from_is in
    let there : slice_get mid.sites.items j ≡ Some u =
    ap (λ (us : List Site). slice_get us j) same.sites ∙ c.requires.may.into_is in
    let number = (before.running.some.stands.hosts j u there).number in
    let first : slice_get c.deref_mut.result.now i ≡ Some s =
    ap (λ (us : List Site). slice_get us i) c.deref_mut.ensures.value ∙ here in
    let second : slice_get c.deref_mut.result.now j ≡ Some u =
    ap (λ (us : List Site). slice_get us j) c.deref_mut.ensures.value ∙ there in
    let new : Parts = record {
      version = mid.version;
      sites = with_items mid.sites c.cross.new.sites;
      tree = c.cross.new.tree;
      trace = mid.trace;
      flights = mid.flights;
      under_way = mid.under_way;
    } in
    let all : new.sites.items ≡ c.cross.new.sites =
    with_items_is mid.sites c.cross.new.sites (c.cross.auto.sites ∙ c.deref_mut.ensures.len) in
    let moves : CrossesAt code.seen mid.tree c.cross.new.tree i j a s u
    mid.sites.items new.sites.items e =
    subst (λ (us : List Site).
    CrossesAt code.seen mid.tree c.cross.new.tree i j a s u mid.sites.items us e) (sym all)
    (subst (λ (us : List Site).
    CrossesAt code.seen mid.tree c.cross.new.tree i j a s u us c.cross.new.sites e)
    c.deref_mut.ensures.value (c.in_ok-effects.ensures.ok s u first second)) in
    let d = moves.moves in
    let load = take_in (pack d.asked.loc (drop_request a s)) u in
    let o = sent_here c.cross.new.tree
    (moved_made (is_alive mid.tree d.target) code.seen u.number d.asked.loc u.made d.cont) load in
    let long : length e.sends ≡ length o.sends = flights_long o.sends e.sends d.answers.sends in
    let one : length o.sends ≤ 1 =
    moved_few c.cross.new.tree (is_alive mid.tree d.target)
    code.seen u.number d.asked.loc u.made d.cont load in
    let room : mid.under_way + 1 < 2 ^ 32 = c.in_ok-make_room.ensures.room.numbers in
    let end : Parts = record {
      version = new.version;
      sites = new.sites;
      tree = new.tree;
      trace = c.add_piece.new.pieces;
      flights = c.add_flights.new.flights;
      under_way = c.add_flights.new.under_way;
    } in
    let can : can_go mid.version mid.tree a s ≡ true =
    ap (λ (t : Tree). can_go mid.version t a s) same.tree
    ∙ ap (λ (v : ℕ). can_go v old.tree a s) same.version ∙ c.requires.may.can in
    let goal_is : d.target.site ≡ j =
    goal_here mid.version code (net_of code.seen mid) before.running.some j a s u
    d.asked d.target d.cont there d.here d.asks can c.requires.may.hosted in
    let made : Moves (net_of code.seen mid) a (net_of code.seen end) =
    crosses_net code.seen mid end refl i j a s u e here there c.requires.may.away number can moves
    goal_is c.add_piece.ensures c.add_flights.ensures.flights in
    subst (λ (n : Net). Moves n a (net_of code.seen end)) (as_before_net code.seen old mid same)
    made

pub returns-clause-whole : goal.returns-clause-whole
returns-clause-whole c = λ events few whole.
    let code = c.args.code.now in
    let old = c.args.parts.now in
    let mid = c.make_room.new.parts in
    let same = c.in_ok-make_room.ensures.same in
    let before = as_before_whole code old mid events same whole in
    let old_fit : AllFit code mid.tree c.deref_mut.result.now =
    subst (λ (us : List Site). AllFit code mid.tree us) (sym c.deref_mut.ensures.value)
    (fit_full code mid.tree mid.sites.items before.running.fit) in
    let i = c.args.from in
    let j = c.args.into in
    let a = c.args.atom.now in
    let s = c.requires.may.from in
    let u = c.requires.may.into in
    let e = c.in_ok-effects.effects in
    let here : slice_get mid.sites.items i ≡ Some s =
    ap (λ (us : List Site). slice_get us i) same.sites ∙ c.requires.may.from_is in
    let there : slice_get mid.sites.items j ≡ Some u =
    ap (λ (us : List Site). slice_get us j) same.sites ∙ c.requires.may.into_is in
    let number = (before.running.some.stands.hosts j u there).number in
    let first : slice_get c.deref_mut.result.now i ≡ Some s =
    ap (λ (us : List Site). slice_get us i) c.deref_mut.ensures.value ∙ here in
    let second : slice_get c.deref_mut.result.now j ≡ Some u =
    ap (λ (us : List Site). slice_get us j) c.deref_mut.ensures.value ∙ there in
    let new : Parts = record {
      version = mid.version;
      sites = with_items mid.sites c.cross.new.sites;
      tree = c.cross.new.tree;
      trace = mid.trace;
      flights = mid.flights;
      under_way = mid.under_way;
    } in
    let all : new.sites.items ≡ c.cross.new.sites =
    with_items_is mid.sites c.cross.new.sites (c.cross.auto.sites ∙ c.deref_mut.ensures.len) in
    let moves : CrossesAt code.seen mid.tree c.cross.new.tree i j a s u
    mid.sites.items new.sites.items e =
    subst (λ (us : List Site).
    CrossesAt code.seen mid.tree c.cross.new.tree i j a s u mid.sites.items us e) (sym all)
    (subst (λ (us : List Site).
    CrossesAt code.seen mid.tree c.cross.new.tree i j a s u us c.cross.new.sites e)
    c.deref_mut.ensures.value (c.in_ok-effects.ensures.ok s u first second)) in
    let d = moves.moves in
    let load = take_in (pack d.asked.loc (drop_request a s)) u in
    let o = sent_here c.cross.new.tree
    (moved_made (is_alive mid.tree d.target) code.seen u.number d.asked.loc u.made d.cont) load in
    let long : length e.sends ≡ length o.sends = flights_long o.sends e.sends d.answers.sends in
    let one : length o.sends ≤ 1 =
    moved_few c.cross.new.tree (is_alive mid.tree d.target)
    code.seen u.number d.asked.loc u.made d.cont load in
    let room : mid.under_way + 1 < 2 ^ 32 = c.in_ok-make_room.ensures.room.numbers in
    let end : Parts = record {
      version = new.version;
      sites = new.sites;
      tree = new.tree;
      trace = c.add_piece.new.pieces;
      flights = c.add_flights.new.flights;
      under_way = c.add_flights.new.under_way;
    } in
    let can : can_go mid.version mid.tree a s ≡ true =
    ap (λ (t : Tree). can_go mid.version t a s) same.tree
    ∙ ap (λ (v : ℕ). can_go v old.tree a s) same.version ∙ c.requires.may.can in
    let goal_is : d.target.site ≡ j =
    goal_here mid.version code (net_of code.seen mid) before.running.some j a s u
    d.asked d.target d.cont there d.here d.asks can c.requires.may.hosted in
    let made : Moves (net_of code.seen mid) a (net_of code.seen end) =
    crosses_net code.seen mid end refl i j a s u e here there c.requires.may.away number can moves
    goal_is c.add_piece.ensures c.add_flights.ensures.flights in
    let fit : AllStayFit code end.tree end.sites.items =
    subst (λ (us : List Site). AllStayFit code end.tree us) (sym all) c.in_ok-effects.ensures.fit in
    event_whole code mid end (event.Move a) events before few (move a _ made)
    (stay_bare code end.tree end.sites.items fit)
    (ap length moves.sites ∙ set_length (slice_set mid.sites.items i moves.left) j moves.after
    ∙ set_length mid.sites.items i moves.left)
    e.sends (all_carry o.sends e.sends d.answers.sends).1 c.add_flights.ensures.flights
    c.add_flights.ensures.count (omega (arith, long, one, room, c.add_flights.ensures.count))
