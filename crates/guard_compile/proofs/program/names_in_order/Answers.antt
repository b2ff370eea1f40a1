use Rattle.std.proofs.Common.{◌≡◌, ℕ, ◌<◌, ◌∷◌, [], length-append, rules, arith, sym, ap, ◌∙◌}
use Rattle.std.proofs.Common.{subst, length, Some, None, true}
use Rattle.std.specs.Prelude.{is_some}
use Rattle.chem_model.specs.Fill.{name_at}
use Rattle.chem_model.specs.Opening.{site_names}
use Rattle.chem_model.specs.ProgramFacts.{ProgramTerms, IsProgram}
use Rattle.guard_compile.proofs.TopNames.{Follows, no_name, follows_more, top_named, all_tops}
use Rattle.guard_compile.proofs.program.names_in_order.Goals as goal

pub unreachable-requires : goal.unreachable-requires
unreachable-requires c =
    let p = c.args.program.now in
    let ok : IsProgram p = subst IsProgram c.program.view_is c.program.invariant in
    let tops : c.program.inside.tops ≡ p.tops =
    ap (λ (q : ProgramTerms). q.tops) c.program.view_is in
    let less : c.loop-binder.binder < p.tops = omega (arith, c.loop-binder-test.true) in
    let named : is_some (name_at (site_names p.sites) c.loop-binder.binder) ≡ true =
    top_named p ok c.loop-binder.binder less in
    let gone : name_at (site_names p.sites) c.loop-binder.binder ≡ None = search rules in
    no_name (name_at (site_names p.sites) c.loop-binder.binder) named gone

pub loop-binder-preserved : goal.loop-binder-preserved
loop-binder-preserved c =
    let f = name_at (site_names c.args.program.now.sites) in
    let named : name_at (site_names c.args.program.now.sites) c.loop-binder.binder
    ≡ Some c.in-Some.name = search rules in
    let count = c.loop-binder.invariant.count in
    let here : name_at (site_names c.args.program.now.sites) (length c.loop-binder.names)
    ≡ Some c.in-Some.name = ap f count ∙ named in
    record {
      count = omega (
        arith,
        count,
        length-append c.loop-binder.names (c.in-Some.name ∷ []),
        ap {B = ℕ} (λ ns. length ns) c.in_ok-push-in-Some.ensures.ok,
      );
      follows = subst (Follows f) (sym c.in_ok-push-in-Some.ensures.ok)
          (follows_more f c.loop-binder.names c.in-Some.name c.loop-binder.invariant.follows here);
    }

pub returns-clause-count : goal.returns-clause-count
returns-clause-count c =
    let tops : c.program.inside.tops ≡ c.args.program.now.tops =
    ap (λ (q : ProgramTerms). q.tops) c.program.view_is in
    omega
    (arith, c.loop-binder.invariant.count, c.loop-binder-test.false, c.loop-binder.auto.binder-end)

pub returns-clause-names : goal.returns-clause-names
returns-clause-names c =
    let p = c.args.program.now in
    let ok : IsProgram p = subst IsProgram c.program.view_is c.program.invariant in
    let tops : c.program.inside.tops ≡ p.tops =
    ap (λ (q : ProgramTerms). q.tops) c.program.view_is in
    let long : length c.loop-binder.names ≡ p.tops = omega (
      arith,
      c.loop-binder.invariant.count,
      c.loop-binder-test.false,
      c.loop-binder.auto.binder-end,
    ) in
    all_tops p ok c.loop-binder.names long c.loop-binder.invariant.follows
