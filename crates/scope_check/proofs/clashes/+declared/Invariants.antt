use Rattle.std.proofs.Common.{◌≡◌, drop}
use Rattle.join_parse.specs.Source.{processes, definitions}
use Rattle.join_parse.specs.SourceSize.{process_depth, definition_depth, procs_depth, defs_depth}
use Rattle.join_parse.specs.Members.{place_depth}
use Rattle.scope_check.specs.inside.Order.{first_of}
use Rattle.scope_check.specs.inside.FaultList.{processes_faults, level_faults}
use Rattle.scope_check.proofs.clashes.+declared.Given as goal

abbrev pub invariant-body-loop-p : goal.invariant-body-loop-p
invariant-body-loop-p l = record {
  items : l.p-items ≡ l.list;
  least :
      first_of l.least (processes_faults (processes (drop l.p-index l.p-items)))
      ≡ first_of l.initial.least (processes_faults (processes l.p-items));
}

abbrev pub invariant-level-loop-d : goal.invariant-level-loop-d
invariant-level-loop-d l = record {
  items : l.d-items ≡ l.list;
  least :
      first_of l.least (level_faults (definitions (drop l.d-index l.d-items)))
      ≡ first_of l.initial.least (level_faults (definitions l.d-items));
}

abbrev pub decreases-process : goal.decreases-process
decreases-process l = process_depth l.p.now

abbrev pub decreases-body : goal.decreases-body
decreases-body l = procs_depth l.list.now

abbrev pub decreases-definition : goal.decreases-definition
decreases-definition l = definition_depth l.d.now

abbrev pub decreases-place : goal.decreases-place
decreases-place l = place_depth l.tree.now

abbrev pub decreases-level : goal.decreases-level
decreases-level l = defs_depth l.list.now
