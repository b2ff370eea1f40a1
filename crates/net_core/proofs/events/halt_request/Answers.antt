use Rattle.std.proofs.Common.{◌≡◌, ◌∙◌, List, [], Some, length, slice_get, sym, ap, subst, refl}
use Rattle.std.proofs.Common.{arith}
use Rattle.std.specs.Vec.{with_items}
use Rattle.std.proofs.lemmas.List.{with_items_is}
use Rattle.chem_laws.proofs.Lists.{append_nil}
use Rattle.chem_model.specs.declared.event.Event.TheVariants as event
use Rattle.loc_tree.specs.Tree.{bare}
use Rattle.net_laws.specs.Site.{Site}
use Rattle.net_core.specs.declared.parts.Parts.{Parts}
use Rattle.net_core.specs.Acting.{Halts}
use Rattle.net_core.specs.inside.AtSites.{HaltsAt}
use Rattle.net_core.specs.Parts.{net_of}
use Rattle.net_core.specs.Playing.{halt}
use Rattle.net_core.specs.Whole.{AllFit}
use Rattle.net_core.proofs.Deliveries.{set_length}
use Rattle.net_core.proofs.Fitting.{fit_full, fit_bare, fit_stays}
use Rattle.net_core.proofs.Handed.{halts_net, event_whole}
use Rattle.net_core.proofs.events.halt_request.Goals as goal

pub returns-clause-halts : goal.returns-clause-halts
returns-clause-halts c = λ seen.
    let old = c.args.parts.now in
    let s = c.requires.may.site in
    let there : slice_get c.deref_mut.result.now c.args.number ≡ Some s =
    ap (λ (us : List Site). slice_get us c.args.number) c.deref_mut.ensures.value
    ∙ c.requires.may.site_is in
    let new : Parts = record {
      version = old.version;
      sites = with_items old.sites c.halt_at.new.sites;
      tree = c.halt_at.new.tree;
      trace = old.trace;
      flights = old.flights;
      under_way = old.under_way;
    } in
    let all : new.sites.items ≡ c.halt_at.new.sites =
    with_items_is old.sites c.halt_at.new.sites (c.halt_at.auto.sites ∙ c.deref_mut.ensures.len) in
    let halts : HaltsAt old.tree new.tree c.args.number c.args.atom.now s
    old.sites.items new.sites.items =
    subst (λ (us : List Site).
    HaltsAt old.tree new.tree c.args.number c.args.atom.now s old.sites.items us) (sym all)
    (subst (λ (us : List Site).
    HaltsAt old.tree new.tree c.args.number c.args.atom.now s us c.halt_at.new.sites)
    c.deref_mut.ensures.value (c.halt_at.ensures.halts s there)) in
    halts_net seen old new refl c.args.number c.args.atom.now s
    c.requires.may.site_is c.requires.may.can halts refl refl

pub returns-clause-whole : goal.returns-clause-whole
returns-clause-whole c = λ code events few whole.
    let old = c.args.parts.now in
    let s = c.requires.may.site in
    let there : slice_get c.deref_mut.result.now c.args.number ≡ Some s =
    ap (λ (us : List Site). slice_get us c.args.number) c.deref_mut.ensures.value
    ∙ c.requires.may.site_is in
    let new : Parts = record {
      version = old.version;
      sites = with_items old.sites c.halt_at.new.sites;
      tree = c.halt_at.new.tree;
      trace = old.trace;
      flights = old.flights;
      under_way = old.under_way;
    } in
    let all : new.sites.items ≡ c.halt_at.new.sites =
    with_items_is old.sites c.halt_at.new.sites (c.halt_at.auto.sites ∙ c.deref_mut.ensures.len) in
    let halts : HaltsAt old.tree new.tree c.args.number c.args.atom.now s
    old.sites.items new.sites.items =
    subst (λ (us : List Site).
    HaltsAt old.tree new.tree c.args.number c.args.atom.now s old.sites.items us) (sym all)
    (subst (λ (us : List Site).
    HaltsAt old.tree new.tree c.args.number c.args.atom.now s us c.halt_at.new.sites)
    c.deref_mut.ensures.value (c.halt_at.ensures.halts s there)) in
    let made : Halts (net_of code.seen old) c.args.atom.now (net_of code.seen new) =
    halts_net code.seen old new refl c.args.number c.args.atom.now s
    c.requires.may.site_is c.requires.may.can halts refl refl in
    let before : AllFit code old.tree c.deref_mut.result.now =
    subst (λ (us : List Site). AllFit code old.tree us) (sym c.deref_mut.ensures.value)
    (fit_full code old.tree old.sites.items whole.running.fit) in
    let after : AllFit code new.tree new.sites.items =
    subst (λ (us : List Site). AllFit code new.tree us) (sym all)
    (c.halt_at.ensures.fit code before) in
    event_whole code old new (event.Halt c.args.atom.now) events whole few
    (halt c.args.atom.now _ made)
    (fit_stays code (bare new.tree) new.sites.items (fit_bare code new.tree new.sites.items after))
    (ap length halts.sites ∙ set_length old.sites.items c.args.number halts.after)
    [] tt (sym (append_nil old.flights.items)) (omega arith)
    (omega (arith, whole.flying.few))
