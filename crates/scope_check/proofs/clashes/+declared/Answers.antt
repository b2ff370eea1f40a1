use Rattle.std.proofs.Common.{arith, ap, sym, drop, ◌+◌, ◌∙◌}
use Rattle.join_parse.specs.SourceSize.{procs_depth, defs_depth}
use Rattle.join_parse.specs.Members.{procs_depth-member, defs_depth-member}
use Rattle.join_parse.specs.Source.{processes, definitions}
use Rattle.scope_check.specs.inside.Order.{first_of}
use Rattle.scope_check.specs.inside.FaultList.{process_faults, processes_faults, definition_faults}
use Rattle.scope_check.specs.inside.FaultList.{level_faults}
use Rattle.scope_check.proofs.Folds.{first-append}
use Rattle.scope_check.proofs.Sites.{drop-next}
use Rattle.scope_check.proofs.clashes.+declared.Goals as goal

pub body-process-requires : goal.body-process-requires
body-process-requires t c = (
  omega (
    arith,
    procs_depth-member c.as_slice-p-items.result.now c.loop-p.p-index c.p-item.result
        c.loop-p-test.true c.p-item.is,
    c.decreases,
    ap procs_depth c.as_slice-p-items.ensures.members,
  ),
  tt,
)

pub level-definition-requires : goal.level-definition-requires
level-definition-requires t c = (
  omega (
    arith,
    defs_depth-member c.as_slice-d-items.result.now c.loop-d.d-index c.d-item.result
        c.loop-d-test.true c.d-item.is,
    c.decreases,
    ap defs_depth c.as_slice-d-items.ensures.members,
  ),
  tt,
)

pub body-loop-p-preserved : goal.body-loop-p-preserved
body-loop-p-preserved t c =
    let items = c.as_slice-p-items.result.now in
    let p = c.p-item.result in
    let rest = processes (drop (c.loop-p.p-index + 1) items) in
    let all = ap processes (drop-next items c.loop-p.p-index p c.loop-p-test.true c.p-item.is) in
    record {
      items = c.loop-p.invariant.items;
      least = ap (λ o. first_of o (processes_faults rest)) c.in_ok-process.ensures
          ∙ sym (first-append c.loop-p.least (process_faults p) (processes_faults rest))
          ∙ ap (λ l. first_of c.loop-p.least (processes_faults l)) (sym all)
          ∙ c.loop-p.invariant.least;
    }

pub level-loop-d-preserved : goal.level-loop-d-preserved
level-loop-d-preserved t c =
    let items = c.as_slice-d-items.result.now in
    let d = c.d-item.result in
    let rest = definitions (drop (c.loop-d.d-index + 1) items) in
    let all = ap definitions (drop-next items c.loop-d.d-index d c.loop-d-test.true c.d-item.is) in
    record {
      items = c.loop-d.invariant.items;
      least = ap (λ o. first_of o (level_faults rest)) c.in_ok-definition.ensures
          ∙ sym (first-append c.loop-d.least (definition_faults d) (level_faults rest))
          ∙ ap (λ l. first_of c.loop-d.least (level_faults l)) (sym all) ∙ c.loop-d.invariant.least;
    }
