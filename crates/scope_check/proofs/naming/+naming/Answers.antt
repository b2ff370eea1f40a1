use Rattle.std.proofs.Common.{rules, arith, ap, sym, drop, ◌≡◌, ◌+◌, ◌++◌, ◌∙◌}
use Rattle.std.proofs.lemmas.Result.{on_ok_weaker}
use Rattle.join_parse.specs.SourceSize.{procs_depth, defs_depth}
use Rattle.join_parse.specs.Members.{procs_depth-member, defs_depth-member}
use Rattle.join_parse.specs.Source.{Def, processes, definitions}
use Rattle.scope_check.specs.Blocks.{places}
use Rattle.scope_check.specs.inside.Naming.{walk_level}
use Rattle.scope_check.proofs.Filled.{def-tables, def-spell}
use Rattle.scope_check.proofs.Sites.{drop-next, level-tables}
use Rattle.scope_check.proofs.naming.+naming.Goals as goal

pub walk_all-walk-requires : goal.walk_all-walk-requires
walk_all-walk-requires t c = (
  omega (
    arith,
    procs_depth-member c.as_slice-p-items.result.now c.loop-p.p-index c.p-item.result
        c.loop-p-test.true c.p-item.is,
    c.decreases,
    ap procs_depth c.as_slice-p-items.ensures.members,
  ),
  tt,
)

pub walk_level-walk_one-requires : goal.walk_level-walk_one-requires
walk_level-walk_one-requires t c = (
  omega (
    arith,
    defs_depth-member c.as_slice-d-items.result.now c.loop-d.d-index c.d-item.result
        c.loop-d-test.true c.d-item.is,
    c.decreases,
    ap defs_depth c.as_slice-d-items.ensures.members,
  ),
  tt,
)

pub walk-returns-in_ok-fill-in-Ok-clause-scopes : goal.walk-returns-in_ok-fill-in-Ok-clause-scopes
walk-returns-in_ok-fill-in-Ok-clause-scopes t c =
    let is : Def (definitions c.in-Def.defs) (processes c.in-Def.body) ≡ c.args.p.now =
    search rules in
    on_ok_weaker c.walk_all-in-Ok.result
    (λ more.
    def-tables _ c.in_ok-slot-in-Def.slot _ _ _ _ _ _ _ c.args.tables.now.scopes.items _ _ _ _ is
    c.in_ok-slot-in-Def.ensures.place c.in_ok-slot-in-Def.ensures.kept c.new-own.ensures
    c.in-Ok.ensures.scopes c.in-Ok.ensures.own c.in_ok-fill-in-Ok.ensures c.in-Ok.ensures.spell
    more)
    c.walk_all-in-Ok.ensures.scopes

pub walk-returns-in_ok-fill-in-Ok-clause-spell : goal.walk-returns-in_ok-fill-in-Ok-clause-spell
walk-returns-in_ok-fill-in-Ok-clause-spell t c =
    let is : Def (definitions c.in-Def.defs) (processes c.in-Def.body) ≡ c.args.p.now =
    search rules in
    on_ok_weaker c.walk_all-in-Ok.result
    (λ more. def-spell _ _ _ _ _ _ _ is c.new-own.ensures c.in-Ok.ensures.spell more)
    c.walk_all-in-Ok.ensures.spell

pub walk_level-loop-d-preserved : goal.walk_level-loop-d-preserved
walk_level-loop-d-preserved t c =
    let items = c.as_slice-d-items.result.now in
    let d = c.d-item.result in
    let rest = drop (c.loop-d.d-index + 1) items in
    let next = drop-next items c.loop-d.d-index d c.loop-d-test.true c.d-item.is in
    let e = c.in_ok-end.ensures in
    let inv = c.loop-d.invariant in
    let all = ap definitions next in
    record {
      items = inv.items;
      place = omega (arith, ap places all, e.place, inv.place);
      own = (λ i. (walk_level c.args.at (e.place i) (e.spell i) (e.own i) (definitions rest)).own)
          ∙ ap (λ ds. (walk_level c.args.at c.loop-d.end c.loop-d.tables.spell c.loop-d.own ds).own)
          (sym all) ∙ inv.own;
      tables = level-tables c.args.at c.loop-d.end c.in_ok-end.end c.loop-d.tables.spell
          c.walk_one.new.tables.spell c.loop-d.own c.walk_one.new.own d (definitions rest)
          c.loop-d.tables.scopes.items c.walk_one.new.tables.scopes.items e.own e.spell e.place
          e.scopes
          ∙ ap (λ ds. c.loop-d.tables.scopes.items
          ++ (walk_level c.args.at c.loop-d.end c.loop-d.tables.spell c.loop-d.own ds).tables)
          (sym all)
          ∙ inv.tables;
      spell =
          (λ i. (walk_level c.args.at (e.place i) (e.spell i) (e.own i) (definitions rest)).spell)
          ∙ ap
          (λ ds. (walk_level c.args.at c.loop-d.end c.loop-d.tables.spell c.loop-d.own ds).spell)
          (sym all) ∙ inv.spell;
    }
