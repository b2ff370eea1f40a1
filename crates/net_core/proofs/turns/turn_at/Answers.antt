use Rattle.std.proofs.Common.{◌≡◌, ◌∙◌, ◌<◌, ◌++◌, ◌-◌, Bool, true, List, Some, length, replicate}
use Rattle.std.proofs.Common.{slice_get, refl, sym, ap, subst, arith}
use Rattle.std.specs.Vec.{with_items}
use Rattle.std.proofs.lemmas.List.{with_items_is}
use Rattle.net_laws.specs.Site.{Site}
use Rattle.net_core.specs.declared.parts.Parts.{Parts}
use Rattle.net_core.specs.inside.Runs.{spread}
use Rattle.net_core.specs.inside.Turns.{IsWorkedAt, Beside}
use Rattle.net_core.proofs.Deliveries.{set_length}
use Rattle.net_core.proofs.Fitting.{on_ok}
use Rattle.net_core.proofs.InPlace.{passed_by, has_turned}
use Rattle.net_core.proofs.SiteReactions.{member_at}
use Rattle.net_core.proofs.turns.turn_at.Goals as goal

pub returns-then-index : goal.returns-then-index
returns-then-index c = λ s at.
    let below : c.args.number < length c.args.idle.now.items =
    omega (arith, c.requires.number, c.requires.many) in
    let flag : slice_get c.args.idle.now.items c.args.number ≡ Some true =
    member_at c.args.idle.now.items c.args.number c.index.result.now below c.index.ensures
    ∙ ap (λ (b : Bool). Some b) c.if-index.true in
    passed_by c.args.turns.code.now c.args.turns.quota c.args.turns.flights.now c.args.number s
    c.args.parts.now (record {
      events = c.args.journal.now;
      froms = spread c.args.senders.now.items;
      idle = c.args.idle.now.items;
    }) at flag (c.requires.pass s at flag)

pub work_at-requires-clause-can : goal.work_at-requires-clause-can
work_at-requires-clause-can c = λ s at.
    c.requires.can s (ap (λ us. slice_get us c.args.number) (sym c.deref_mut.ensures.value) ∙ at)

pub returns : goal.returns
returns c =
    let code = c.args.turns.code.now in
    let quota = c.args.turns.quota in
    let coming = c.args.turns.flights.now in
    let n = c.args.number in
    let old = c.args.parts.now in
    let new = c.take_work.new.parts in
    let w = c.in_ok-work.work in
    let sites = c.work_at.new.sites in
    let all : (with_items old.sites sites).items ≡ sites =
    with_items_is old.sites sites (c.work_at.auto.sites ∙ c.deref_mut.ensures.len) in
    let mid : Parts = record {
      version = old.version;
      sites = with_items old.sites sites;
      tree = old.tree;
      trace = old.trace;
      flights = old.flights;
      under_way = old.under_way;
    } in
    let before : Beside = record {
      events = c.args.journal.now;
      froms = spread c.args.senders.now.items;
      idle = c.args.idle.now.items;
    } in
    let after : Beside = record {
      events = c.take_work.new.journal;
      froms = spread c.push_run.new.runs.items;
      idle = _;
    } in
    let olds = spread c.args.senders.now.items in
    let count = new.under_way - old.under_way in
    on_ok (spread c.push_run.new.runs.items ≡ olds ++ replicate count c.number-from.result) _
    c.push_run.result
    (λ sent s at.
    let there : slice_get c.deref_mut.result.now n ≡ Some s =
    ap (λ us. slice_get us n) c.deref_mut.ensures.value ∙ at in
    let worked : IsWorkedAt code old.tree quota coming n s w old.sites.items mid.sites.items =
    subst (λ (us : List Site). IsWorkedAt code old.tree quota coming n s w us mid.sites.items)
    c.deref_mut.ensures.value
    (subst (λ (us : List Site).
    IsWorkedAt code old.tree quota coming n s w c.deref_mut.result.now us) (sym all)
    (c.in_ok-work.ensures s there)) in
    let here = c.index-2.result.now in
    let below : n < length mid.sites.items = omega (
      arith,
      ap length worked.sites,
      set_length old.sites.items n worked.site,
      c.requires.number,
    ) in
    let now = member_at mid.sites.items n here below c.index-2.ensures in
    has_turned code quota coming n s here old mid new before after w worked at now
    refl refl refl refl refl c.in_ok-take_work.ensures
    (sent ∙ ap (λ k. olds ++ replicate count k) c.number-from.ensures) refl)
    c.push_run.ensures
