use Rattle.std.proofs.Common.{◌≡◌, ◌<◌, ◌^◌, length, sym, ap, subst, arith, inl, refl}
use Rattle.chem_model.specs.Opening.{opening}
use Rattle.chem_model.specs.ProgramFacts.{ProgramTerms, IsProgram}
use Rattle.chem_laws.proofs.Limits.{sites-few}
use Rattle.env_store.specs.CodeFacts.{IsCode}
use Rattle.env_store.specs.CodeParts.{CodeParts}
use Rattle.env_store.specs.Laws.{rules_of_group}
use Rattle.loc_tree.specs.Tree.{bare}
use Rattle.net_laws.specs.Net.{Stands}
use Rattle.net_laws.specs.Opened.{opened_net, RunsCode}
use Rattle.site_turn.specs.Opening.{tree_before}
use Rattle.net_core.specs.declared.parts.Parts.{Parts}
use Rattle.net_core.specs.Parts.{net_of}
use Rattle.net_core.specs.Whole.{IsWhole}
use Rattle.net_core.proofs.Idling.{none_known}
use Rattle.net_core.proofs.Starting.{started, handed_long}
use Rattle.net_core.proofs.net.Net.start.Goals as goal

pub hand_all_out-requires : goal.hand_all_out-requires
hand_all_out-requires c =
    let ok : IsProgram c.args.program.now = subst IsProgram c.program.view_is c.program.invariant in
    let code = c.args.code.now in
    let o = c.in_ok-opened.opened in
    omega (
      arith,
      c.requires.no_other_sites,
      ok.few_sites,
      sites-few c.args.program.now.version,
      handed_long code 0 code.sites (tree_before code) o.handed.items
          (c.in_ok-opened.ensures c.args.program.now.version).handed,
    )

pub invariant_of-result : goal.invariant_of-result
invariant_of-result c =
    let ok : IsProgram c.args.program.now = subst IsProgram c.program.view_is c.program.invariant in
    let kept : IsCode c.args.code.now = subst IsCode c.code.view_is c.code.invariant in
    let few : length c.args.code.now.sites < 2 ^ 32 =
    omega (arith, c.requires.no_other_sites, ok.few_sites, sites-few c.args.program.now.version) in
    let o = c.in_ok-opened.opened in
    let first : Parts = record {
      version = c.program.inside.version;
      sites = o.sites;
      tree = o.tree;
      trace = c.new.result;
      flights = c.new-2.result;
      under_way = 0;
    } in
    let s = started c.args.program.now c.args.code.now ok kept c.requires o
    (c.in_ok-opened.ensures c.args.program.now.version) first
    c.hand_all_out.new.parts (ap (λ (p : ProgramTerms). p.version) c.program.view_is) refl refl
    c.new.ensures.items c.new-2.ensures.items refl c.new-senders.result.items
    c.hand_all_out.new.senders.items c.new-senders.ensures.items c.in_ok-hand_all_out.ensures few in
    record {
      net = record {
        whole = subst (λ (x : CodeParts). IsWhole x c.hand_all_out.new.parts 0)
            (sym c.in_ok-code.ensures) s.whole;
        sent = s.sent;
      };
      rests = inl c.new-3.ensures.items;
      quiet = none_known c.in_ok-code.code (bare c.hand_all_out.new.parts.tree)
          c.hand_all_out.new.parts.sites.items c.new-4.result.items c.new-4.ensures.items;
    }

pub returns-clause-opened : goal.returns-clause-opened
returns-clause-opened c =
    let ok : IsProgram c.args.program.now = subst IsProgram c.program.view_is c.program.invariant in
    let kept : IsCode c.args.code.now = subst IsCode c.code.view_is c.code.invariant in
    let few : length c.args.code.now.sites < 2 ^ 32 =
    omega (arith, c.requires.no_other_sites, ok.few_sites, sites-few c.args.program.now.version) in
    let o = c.in_ok-opened.opened in
    let first : Parts = record {
      version = c.program.inside.version;
      sites = o.sites;
      tree = o.tree;
      trace = c.new.result;
      flights = c.new-2.result;
      under_way = 0;
    } in
    let s = started c.args.program.now c.args.code.now ok kept c.requires o
    (c.in_ok-opened.ensures c.args.program.now.version) first
    c.hand_all_out.new.parts (ap (λ (p : ProgramTerms). p.version) c.program.view_is) refl refl
    c.new.ensures.items c.new-2.ensures.items refl c.new-senders.result.items
    c.hand_all_out.new.senders.items c.new-senders.ensures.items c.in_ok-hand_all_out.ensures few in
    subst (λ (x : CodeParts).
    net_of x.seen c.hand_all_out.new.parts ≡ opened_net c.args.program.now.version c.args.code.now)
    (sym c.in_ok-code.ensures) s.net

pub returns-clause-froms : goal.returns-clause-froms
returns-clause-froms c =
    let ok : IsProgram c.args.program.now = subst IsProgram c.program.view_is c.program.invariant in
    let kept : IsCode c.args.code.now = subst IsCode c.code.view_is c.code.invariant in
    let few : length c.args.code.now.sites < 2 ^ 32 =
    omega (arith, c.requires.no_other_sites, ok.few_sites, sites-few c.args.program.now.version) in
    let o = c.in_ok-opened.opened in
    let first : Parts = record {
      version = c.program.inside.version;
      sites = o.sites;
      tree = o.tree;
      trace = c.new.result;
      flights = c.new-2.result;
      under_way = 0;
    } in
    let s = started c.args.program.now c.args.code.now ok kept c.requires o
    (c.in_ok-opened.ensures c.args.program.now.version) first
    c.hand_all_out.new.parts (ap (λ (p : ProgramTerms). p.version) c.program.view_is) refl refl
    c.new.ensures.items c.new-2.ensures.items refl c.new-senders.result.items
    c.hand_all_out.new.senders.items c.new-senders.ensures.items c.in_ok-hand_all_out.ensures few in
    s.froms

pub returns-clause-stands : goal.returns-clause-stands
returns-clause-stands c =
    let ok : IsProgram c.args.program.now = subst IsProgram c.program.view_is c.program.invariant in
    let kept : IsCode c.args.code.now = subst IsCode c.code.view_is c.code.invariant in
    let few : length c.args.code.now.sites < 2 ^ 32 =
    omega (arith, c.requires.no_other_sites, ok.few_sites, sites-few c.args.program.now.version) in
    let o = c.in_ok-opened.opened in
    let first : Parts = record {
      version = c.program.inside.version;
      sites = o.sites;
      tree = o.tree;
      trace = c.new.result;
      flights = c.new-2.result;
      under_way = 0;
    } in
    let s = started c.args.program.now c.args.code.now ok kept c.requires o
    (c.in_ok-opened.ensures c.args.program.now.version) first
    c.hand_all_out.new.parts (ap (λ (p : ProgramTerms). p.version) c.program.view_is) refl refl
    c.new.ensures.items c.new-2.ensures.items refl c.new-senders.result.items
    c.hand_all_out.new.senders.items c.new-senders.ensures.items c.in_ok-hand_all_out.ensures few in
    subst (λ (x : CodeParts). Stands (rules_of_group c.args.program.now)
    (net_of x.seen c.hand_all_out.new.parts) (opening c.args.program.now))
    (sym c.in_ok-code.ensures) s.stands

pub returns-clause-runs : goal.returns-clause-runs
returns-clause-runs c =
    let ok : IsProgram c.args.program.now = subst IsProgram c.program.view_is c.program.invariant in
    let kept : IsCode c.args.code.now = subst IsCode c.code.view_is c.code.invariant in
    let few : length c.args.code.now.sites < 2 ^ 32 =
    omega (arith, c.requires.no_other_sites, ok.few_sites, sites-few c.args.program.now.version) in
    let o = c.in_ok-opened.opened in
    let first : Parts = record {
      version = c.program.inside.version;
      sites = o.sites;
      tree = o.tree;
      trace = c.new.result;
      flights = c.new-2.result;
      under_way = 0;
    } in
    let s = started c.args.program.now c.args.code.now ok kept c.requires o
    (c.in_ok-opened.ensures c.args.program.now.version) first
    c.hand_all_out.new.parts (ap (λ (p : ProgramTerms). p.version) c.program.view_is) refl refl
    c.new.ensures.items c.new-2.ensures.items refl c.new-senders.result.items
    c.hand_all_out.new.senders.items c.new-senders.ensures.items c.in_ok-hand_all_out.ensures few in
    subst (λ (x : CodeParts).
    RunsCode c.args.program.now x (net_of x.seen c.hand_all_out.new.parts))
    (sym c.in_ok-code.ensures) s.runs
