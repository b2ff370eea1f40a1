use Rattle.std.proofs.Common.{◌≡◌, ◌<◌, ◌-◌, ◌+◌, ◌∙◌, ◌^◌, ℕ, true, List, Some, length, slice_get}
use Rattle.std.proofs.Common.{sym, ap, subst, refl, arith}
use Rattle.std.specs.Vec.{with_items}
use Rattle.std.proofs.lemmas.List.{with_items_is}
use Rattle.net_core.specs.inside.Delivering.{IsBrought}
use Rattle.net_laws.specs.Site.{Site}
use Rattle.router.specs.Delivering.{can_deliver}
use Rattle.net_core.specs.declared.parts.Parts.{Parts}
use Rattle.net_core.specs.Parts.{carried, message_in, IsMessageText, net_of}
use Rattle.net_core.specs.Senders.{deliver}
use Rattle.net_core.specs.inside.Handing.{AreAsBefore}
use Rattle.net_core.specs.Whole.{AllFit}
use Rattle.net_core.proofs.Carrying.{carried_at}
use Rattle.net_core.proofs.Deliveries.{flight_spelled, target_below, flight_may, delivers}
use Rattle.net_core.proofs.Deliveries.{delivered_whole, as_before_net, as_before_whole}
use Rattle.net_core.proofs.Deliveries.{flight_found, brought_in, goes_few}
use Rattle.net_core.proofs.Fitting.{fit_full, on_err}
use Rattle.net_core.proofs.Leading.{get_some}
use Rattle.net_core.proofs.delivering.deliver_flight.Goals as goal

pub index-found-requires : goal.index-found-requires
index-found-requires c =
    let flying = c.requires.whole.2.flying in
    omega (arith, c.requires.flight, flying.counted, c.args.parts.now.flights.ok.0)

pub bring_to_target-requires-clause-spelled : goal.bring_to_target-requires-clause-spelled
bring_to_target-requires-clause-spelled c =
    let found = flight_found c.args.parts.now c.args.flight c.index-found.result.now
    c.requires.whole.2.flying c.requires.flight c.index-found.ensures in
    subst IsMessageText (sym c.as_slice-bytes.ensures.members) (flight_spelled c.args.parts.now
    c.args.flight c.index-found.result.now c.requires.whole.2.flying found)

pub bring_to_target-requires-clause-target : goal.bring_to_target-requires-clause-target
bring_to_target-requires-clause-target c =
    let found = flight_found c.args.parts.now c.args.flight c.index-found.result.now
    c.requires.whole.2.flying c.requires.flight c.index-found.ensures in
    subst (λ (us : List Site). c.index-found.result.now.target < length us)
    (sym c.deref_mut.ensures.value) (target_below c.requires.whole.0 c.args.parts.now
    c.requires.whole.1 c.args.flight c.index-found.result.now c.requires.whole.2 found)

pub bring_to_target-requires-clause-can : goal.bring_to_target-requires-clause-can
bring_to_target-requires-clause-can c = λ s at.
    let found = flight_found c.args.parts.now c.args.flight c.index-found.result.now
    c.requires.whole.2.flying c.requires.flight c.index-found.ensures in
    let here : slice_get c.args.parts.now.sites.items c.index-found.result.now.target ≡ Some s =
    ap (λ (us : List Site). slice_get us c.index-found.result.now.target)
    (sym c.deref_mut.ensures.value) ∙ at in
    subst (λ (bs : List ℕ). can_deliver c.args.parts.now.tree s (message_in bs) ≡ true)
    (sym c.as_slice-bytes.ensures.members) (flight_may c.requires.whole.0 c.args.parts.now
    c.requires.whole.1 c.args.flight c.index-found.result.now s c.requires.whole.2 found here)

pub returns-in_err-more-clause-whole : goal.returns-in_err-more-clause-whole
returns-in_err-more-clause-whole c = λ code events whole.
    let all : (with_items c.args.parts.now.sites c.bring_to_target.new.sites).items
    ≡ c.bring_to_target.new.sites = with_items_is c.args.parts.now.sites c.bring_to_target.new.sites
    (c.bring_to_target.auto.sites ∙ c.deref_mut.ensures.len) in
    let new : Parts = record {
      version = c.args.parts.now.version;
      sites = with_items c.args.parts.now.sites c.bring_to_target.new.sites;
      tree = c.args.parts.now.tree;
      trace = c.args.parts.now.trace;
      flights = c.args.parts.now.flights;
      under_way = c.args.parts.now.under_way;
    } in
    let same : AreAsBefore c.args.parts.now new = record {
      version = refl;
      sites = all ∙ c.in_err-more.ensures.err ∙ c.deref_mut.ensures.value;
      tree = refl;
      trace = refl;
      flights = refl;
      under_way = refl;
    } in
    as_before_whole code c.args.parts.now new events same whole

pub returns-in_err-more-clause-err : goal.returns-in_err-more-clause-err
returns-in_err-more-clause-err c =
    let all : (with_items c.args.parts.now.sites c.bring_to_target.new.sites).items
    ≡ c.bring_to_target.new.sites = with_items_is c.args.parts.now.sites c.bring_to_target.new.sites
    (c.bring_to_target.auto.sites ∙ c.deref_mut.ensures.len) in
    let new : Parts = record {
      version = c.args.parts.now.version;
      sites = with_items c.args.parts.now.sites c.bring_to_target.new.sites;
      tree = c.args.parts.now.tree;
      trace = c.args.parts.now.trace;
      flights = c.args.parts.now.flights;
      under_way = c.args.parts.now.under_way;
    } in
    let same : AreAsBefore c.args.parts.now new = record {
      version = refl;
      sites = all ∙ c.in_err-more.ensures.err ∙ c.deref_mut.ensures.value;
      tree = refl;
      trace = refl;
      flights = refl;
      under_way = refl;
    } in
    on_err ((seen : List ℕ) → net_of seen new ≡ net_of seen c.args.parts.now)
    c.from_residual.result (λ seen. as_before_net seen c.args.parts.now new same)

pub replace-requires-clause-place : goal.replace-requires-clause-place
replace-requires-clause-place c =
    omega (arith, c.requires.flight, c.requires.whole.2.flying.counted)

pub replace-requires-clause-few : goal.replace-requires-clause-few
replace-requires-clause-few c =
    let found = flight_found c.args.parts.now c.args.flight c.index-found.result.now
    c.requires.whole.2.flying c.requires.flight c.index-found.ensures in
    let flight = c.index-found.result.now in
    let here = get_some c.args.parts.now.sites.items flight.target
    (target_below c.requires.whole.0 c.args.parts.now c.requires.whole.1 c.args.flight flight
    c.requires.whole.2 found) in
    let b = brought_in c.args.parts.now.tree flight.target flight.bytes c.as_slice-bytes.result.now
    here.0 c.in_ok-more.more c.deref_mut.result.now c.args.parts.now.sites.items
    c.bring_to_target.new.sites c.as_slice-bytes.ensures.members c.deref_mut.ensures.value
    c.in_ok-more.ensures.ok here.1 in
    omega (arith, goes_few flight.bytes c.in_ok-more.more b.on b.goes)

pub overflow_add-parts : goal.overflow_add-parts
overflow_add-parts c =
    let found = flight_found c.args.parts.now c.args.flight c.index-found.result.now
    c.requires.whole.2.flying c.requires.flight c.index-found.ensures in
    let flight = c.index-found.result.now in
    let here = get_some c.args.parts.now.sites.items flight.target
    (target_below c.requires.whole.0 c.args.parts.now c.requires.whole.1 c.args.flight flight
    c.requires.whole.2 found) in
    let b = brought_in c.args.parts.now.tree flight.target flight.bytes c.as_slice-bytes.result.now
    here.0 c.in_ok-more.more c.deref_mut.result.now c.args.parts.now.sites.items
    c.bring_to_target.new.sites c.as_slice-bytes.ensures.members c.deref_mut.ensures.value
    c.in_ok-more.ensures.ok here.1 in
    let count : c.len-count.result ≡ length c.in_ok-more.more = c.len-count.ensures.count in
    let few = goes_few flight.bytes c.in_ok-more.more b.on b.goes in
    let all = c.requires.whole.2.flying.few in
    let some = c.requires.flight in
    omega arith

pub returns-clause-ok : goal.returns-clause-ok
returns-clause-ok c = λ seen.
    let found = flight_found c.args.parts.now c.args.flight c.index-found.result.now
    c.requires.whole.2.flying c.requires.flight c.index-found.ensures in
    let flight = c.index-found.result.now in
    let here = get_some c.args.parts.now.sites.items flight.target
    (target_below c.requires.whole.0 c.args.parts.now c.requires.whole.1 c.args.flight flight
    c.requires.whole.2 found) in
    let b = brought_in c.args.parts.now.tree flight.target flight.bytes c.as_slice-bytes.result.now
    here.0 c.in_ok-more.more c.deref_mut.result.now c.args.parts.now.sites.items
    c.bring_to_target.new.sites c.as_slice-bytes.ensures.members c.deref_mut.ensures.value
    c.in_ok-more.ensures.ok here.1 in
    let all : (with_items c.args.parts.now.sites c.bring_to_target.new.sites).items
    ≡ c.bring_to_target.new.sites = with_items_is c.args.parts.now.sites c.bring_to_target.new.sites
    (c.bring_to_target.auto.sites ∙ c.deref_mut.ensures.len) in
    let put = subst (λ (us : List Site). IsBrought c.args.parts.now.tree flight.target here.0
    (message_in flight.bytes) b.on c.args.parts.now.sites.items us) (sym all) b.brought in
    let new : Parts = record {
      version = c.args.parts.now.version;
      sites = with_items c.args.parts.now.sites c.bring_to_target.new.sites;
      tree = c.args.parts.now.tree;
      trace = c.args.parts.now.trace;
      flights = c.replace.new.flights;
      under_way = c.args.parts.now.under_way - 1 + c.len-count.result;
    } in
    let number =
    (c.requires.whole.2.running.some.stands.hosts flight.target here.0 here.1).number in
    delivers c.requires.whole.0 c.args.parts.now new c.args.parts.now.flights.items
    c.args.flight flight b.on c.in_ok-more.more here.0 found here.1 number put b.goes refl refl refl
    c.replace.ensures seen

pub returns-clause-whole : goal.returns-clause-whole
returns-clause-whole c = λ code events whole.
    let found = flight_found c.args.parts.now c.args.flight c.index-found.result.now
    c.requires.whole.2.flying c.requires.flight c.index-found.ensures in
    let flight = c.index-found.result.now in
    let here = get_some c.args.parts.now.sites.items flight.target
    (target_below c.requires.whole.0 c.args.parts.now c.requires.whole.1 c.args.flight flight
    c.requires.whole.2 found) in
    let b = brought_in c.args.parts.now.tree flight.target flight.bytes c.as_slice-bytes.result.now
    here.0 c.in_ok-more.more c.deref_mut.result.now c.args.parts.now.sites.items
    c.bring_to_target.new.sites c.as_slice-bytes.ensures.members c.deref_mut.ensures.value
    c.in_ok-more.ensures.ok here.1 in
    let all : (with_items c.args.parts.now.sites c.bring_to_target.new.sites).items
    ≡ c.bring_to_target.new.sites = with_items_is c.args.parts.now.sites c.bring_to_target.new.sites
    (c.bring_to_target.auto.sites ∙ c.deref_mut.ensures.len) in
    let put = subst (λ (us : List Site). IsBrought c.args.parts.now.tree flight.target here.0
    (message_in flight.bytes) b.on c.args.parts.now.sites.items us) (sym all) b.brought in
    let new : Parts = record {
      version = c.args.parts.now.version;
      sites = with_items c.args.parts.now.sites c.bring_to_target.new.sites;
      tree = c.args.parts.now.tree;
      trace = c.args.parts.now.trace;
      flights = c.replace.new.flights;
      under_way = c.args.parts.now.under_way - 1 + c.len-count.result;
    } in
    let fit : AllFit code c.args.parts.now.tree c.deref_mut.result.now =
    subst (λ (us : List Site). AllFit code c.args.parts.now.tree us) (sym c.deref_mut.ensures.value)
    (fit_full code c.args.parts.now.tree c.args.parts.now.sites.items whole.running.fit) in
    let number = (whole.running.some.stands.hosts flight.target here.0 here.1).number in
    let count : new.under_way
    ≡ length c.args.parts.now.flights.items - 1 + length c.in_ok-more.more =
    omega (arith, c.len-count.ensures.count, whole.flying.counted) in
    let few : new.under_way < 2 ^ 32 = omega (
      arith,
      c.len-count.ensures.count,
      goes_few flight.bytes c.in_ok-more.more b.on b.goes,
      whole.flying.few,
      c.requires.flight,
    ) in
    delivered_whole code c.args.parts.now new c.args.parts.now.flights.items
    c.args.flight flight b.on c.in_ok-more.more here.0 found here.1 number put b.goes refl refl refl
    c.replace.ensures events whole.running whole.flying.spelled
    (subst (λ (us : List Site). AllFit code c.args.parts.now.tree us) (sym all)
    (c.in_ok-more.ensures.fit code fit)) count few

pub returns-clause-sent_by : goal.returns-clause-sent_by
returns-clause-sent_by c = λ seen.
    let found = flight_found c.args.parts.now c.args.flight c.index-found.result.now
    c.requires.whole.2.flying c.requires.flight c.index-found.ensures in
    deliver c.args.flight (carried c.index-found.result.now)
    (carried_at c.args.parts.now.flights.items
    c.args.flight c.index-found.result.now found)
