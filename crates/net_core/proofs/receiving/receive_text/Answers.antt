use Rattle.std.proofs.Common.{◌≡◌, ◌∙◌, ◌++◌, List, Some, slice_get, sym, ap, subst, refl, arith}
use Rattle.std.specs.Vec.{with_items}
use Rattle.std.proofs.lemmas.List.{with_items_is}
use Rattle.net_laws.specs.Site.{Site}
use Rattle.net_core.specs.declared.parts.Parts.{Parts}
use Rattle.net_core.specs.Parts.{message_in}
use Rattle.net_core.specs.Whole.{AllFit}
use Rattle.net_core.specs.inside.Delivering.{IsBrought}
use Rattle.net_core.specs.inside.Handing.{AreAsBefore}
use Rattle.net_core.proofs.Deliveries.{brought_in, goes_few}
use Rattle.net_core.proofs.Fitting.{fit_full, on_err}
use Rattle.net_core.proofs.FromOutside.{receive_may, received}
use Rattle.net_core.proofs.Leading.{get_some}
use Rattle.net_core.proofs.receiving.receive_text.Goals as goal

pub bring_to_target-requires-clause-can : goal.bring_to_target-requires-clause-can
bring_to_target-requires-clause-can c = λ s at.
    let here : slice_get c.args.parts.now.sites.items c.args.site ≡ Some s =
    ap (λ (us : List Site). slice_get us c.args.site) (sym c.deref_mut.ensures.value) ∙ at in
    receive_may c.requires.whole.0 c.args.parts.now c.args.site c.args.bytes.now s
    c.requires.whole.3 here

pub returns-in_err-more-clause-err : goal.returns-in_err-more-clause-err
returns-in_err-more-clause-err c =
    let all : (with_items c.args.parts.now.sites c.bring_to_target.new.sites).items
    ≡ c.bring_to_target.new.sites = with_items_is c.args.parts.now.sites c.bring_to_target.new.sites
    (c.bring_to_target.auto.sites ∙ c.deref_mut.ensures.len) in
    let new : Parts = record {
      version = c.args.parts.now.version;
      sites = with_items c.args.parts.now.sites c.bring_to_target.new.sites;
      tree = c.args.parts.now.tree;
      trace = c.args.parts.now.trace;
      flights = c.reserve.new.self;
      under_way = c.args.parts.now.under_way;
    } in
    let same : AreAsBefore c.args.parts.now new = record {
      version = refl;
      sites = all ∙ c.in_err-more.ensures.err ∙ c.deref_mut.ensures.value;
      tree = refl;
      trace = refl;
      flights = c.in_ok-reserve.ensures.items;
      under_way = refl;
    } in
    on_err (AreAsBefore c.args.parts.now new) c.from_residual-in_err-more.result same

pub add_flights-requires : goal.add_flights-requires
add_flights-requires c =
    let here = get_some c.args.parts.now.sites.items c.args.site c.requires.site in
    let b = brought_in c.args.parts.now.tree c.args.site c.args.bytes.now c.args.bytes.now here.0
    c.in_ok-more.more c.deref_mut.result.now c.args.parts.now.sites.items
    c.bring_to_target.new.sites refl c.deref_mut.ensures.value c.in_ok-more.ensures.ok here.1 in
    let few = goes_few c.args.bytes.now c.in_ok-more.more b.on b.goes in
    let low = c.if-parts.false in
    (omega (arith, few, c.in_ok-reserve.ensures.ok), omega (arith, few, low))

pub returns-clause-ok : goal.returns-clause-ok
returns-clause-ok c = λ code events whole some.
    let here = get_some c.args.parts.now.sites.items c.args.site c.requires.site in
    let b = brought_in c.args.parts.now.tree c.args.site c.args.bytes.now c.args.bytes.now here.0
    c.in_ok-more.more c.deref_mut.result.now c.args.parts.now.sites.items
    c.bring_to_target.new.sites refl c.deref_mut.ensures.value c.in_ok-more.ensures.ok here.1 in
    let all : (with_items c.args.parts.now.sites c.bring_to_target.new.sites).items
    ≡ c.bring_to_target.new.sites = with_items_is c.args.parts.now.sites c.bring_to_target.new.sites
    (c.bring_to_target.auto.sites ∙ c.deref_mut.ensures.len) in
    let put = subst (λ (us : List Site). IsBrought c.args.parts.now.tree c.args.site here.0
    (message_in c.args.bytes.now) b.on c.args.parts.now.sites.items us) (sym all) b.brought in
    let new : Parts = record {
      version = c.args.parts.now.version;
      sites = with_items c.args.parts.now.sites c.bring_to_target.new.sites;
      tree = c.args.parts.now.tree;
      trace = c.args.parts.now.trace;
      flights = c.add_flights.new.flights;
      under_way = c.add_flights.new.under_way;
    } in
    let left : new.flights.items
    ≡ c.args.parts.now.flights.items ++ c.in_ok-more.more = c.add_flights.ensures.flights
    ∙ ap (λ fs. fs ++ c.in_ok-more.more) c.in_ok-reserve.ensures.items in
    let fit : AllFit code c.args.parts.now.tree c.deref_mut.result.now =
    subst (λ (us : List Site). AllFit code c.args.parts.now.tree us) (sym c.deref_mut.ensures.value)
    (fit_full code c.args.parts.now.tree c.args.parts.now.sites.items whole.running.fit) in
    let few = goes_few c.args.bytes.now c.in_ok-more.more b.on b.goes in
    let low = c.if-parts.false in
    received code c.args.parts.now new c.args.site c.args.bytes.now events b.on c.in_ok-more.more
    here.0 whole c.requires.spelled some here.1 put b.goes refl refl refl left
    (subst (λ (us : List Site). AllFit code c.args.parts.now.tree us) (sym all)
    (c.in_ok-more.ensures.fit code fit))
    c.add_flights.ensures.count (omega (arith, c.add_flights.ensures.count))
