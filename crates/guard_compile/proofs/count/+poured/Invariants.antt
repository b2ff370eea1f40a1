use Rattle.std.proofs.Common.{◌≡◌, drop}
use Rattle.chem_model.specs.Process.{processes, definitions}
use Rattle.chem_model.specs.ProcessSize.{process_depth, definition_depth, procs_depth, defs_depth}
use Rattle.guard_compile.specs.inside.Counted.{both_poured, poured_in_all, poured_in_defs}
use Rattle.guard_compile.proofs.count.+poured.Given as goal

abbrev pub invariant-poured_all-loop-member : goal.invariant-poured_all-loop-member
invariant-poured_all-loop-member l =
    both_poured l.made (poured_in_all (processes (drop l.member-index l.member-items)))
    ≡ poured_in_all (processes l.member-items)

abbrev pub invariant-poured_defs-loop-definition : goal.invariant-poured_defs-loop-definition
invariant-poured_defs-loop-definition l =
    both_poured l.made (poured_in_defs (definitions (drop l.definition-index l.definition-items)))
    ≡ poured_in_defs (definitions l.definition-items)

abbrev pub decreases-poured : goal.decreases-poured
decreases-poured l = process_depth l.process.now

abbrev pub decreases-poured_all : goal.decreases-poured_all
decreases-poured_all l = procs_depth l.members.now

abbrev pub decreases-poured_def : goal.decreases-poured_def
decreases-poured_def l = definition_depth l.definition.now

abbrev pub decreases-poured_defs : goal.decreases-poured_defs
decreases-poured_defs l = defs_depth l.defs.now
