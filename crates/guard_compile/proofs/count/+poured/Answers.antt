-- A member of a list is less deep than the list.
use Rattle.std.proofs.Common.{◌+◌, drop, arith, ap, ◌∙◌}
use Rattle.chem_model.specs.Process.{processes, definitions}
use Rattle.chem_model.specs.Members.{procs_depth-member, defs_depth-member}
use Rattle.guard_compile.specs.inside.Counted.{poured_in_all, poured_in_defs}
use Rattle.guard_compile.proofs.Loops.{drop_at, drop_past}
use Rattle.guard_compile.proofs.Counting.{all_more, all_ended, defs_more, defs_ended}
use Rattle.guard_compile.proofs.count.+poured.Goals as goal

pub poured_all-poured-requires : goal.poured_all-poured-requires
poured_all-poured-requires t c =
    let falls = rw c.as_slice-member-items.ensures.members at
    (procs_depth-member c.as_slice-member-items.result.now c.loop-member.member-index
    c.member-item.result c.loop-member-test.true c.member-item.is) in
    (omega (arith, falls), tt)

pub poured_defs-poured_def-requires : goal.poured_defs-poured_def-requires
poured_defs-poured_def-requires t c =
    let falls = rw c.as_slice-definition-items.ensures.members at
    (defs_depth-member c.as_slice-definition-items.result.now c.loop-definition.definition-index
    c.definition-item.result c.loop-definition-test.true c.definition-item.is) in
    (omega (arith, falls), tt)

pub poured_all-loop-member-preserved : goal.poured_all-loop-member-preserved
poured_all-loop-member-preserved t c =
    let items = c.as_slice-member-items.result.now in
    let i = c.loop-member.member-index in
    all_more c.loop-member.made c.in_ok-more.more c.in_ok-made.made c.member-item.result
    (drop i items) (drop (i + 1) items) _
    (drop_at items i c.member-item.result c.loop-member-test.true c.member-item.is)
    c.loop-member.invariant c.in_ok-more.ensures c.in_ok-made.ensures

pub poured_all-returns : goal.poured_all-returns
poured_all-returns t c =
    let items = c.as_slice-member-items.result.now in
    let i = c.loop-member.member-index in
    all_ended c.loop-member.made (drop i items) _ (drop_past items i c.loop-member-test.false)
    c.loop-member.invariant
    ∙ ap (λ ps. poured_in_all (processes ps)) c.as_slice-member-items.ensures.members

pub poured_defs-loop-definition-preserved : goal.poured_defs-loop-definition-preserved
poured_defs-loop-definition-preserved t c =
    let items = c.as_slice-definition-items.result.now in
    let i = c.loop-definition.definition-index in
    defs_more c.loop-definition.made c.in_ok-more.more c.in_ok-made.made c.definition-item.result
    (drop i items) (drop (i + 1) items) _
    (drop_at items i c.definition-item.result c.loop-definition-test.true c.definition-item.is)
    c.loop-definition.invariant c.in_ok-more.ensures c.in_ok-made.ensures

pub poured_defs-returns : goal.poured_defs-returns
poured_defs-returns t c =
    let items = c.as_slice-definition-items.result.now in
    let i = c.loop-definition.definition-index in
    defs_ended c.loop-definition.made (drop i items) _
    (drop_past items i c.loop-definition-test.false) c.loop-definition.invariant
    ∙ ap (λ ds. poured_in_defs (definitions ds)) c.as_slice-definition-items.ensures.members
