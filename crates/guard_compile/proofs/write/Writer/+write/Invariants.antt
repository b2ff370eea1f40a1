use Rattle.std.proofs.Common.{◌+◌, ◌*◌, max, drop}
use Rattle.chem_model.specs.ProcessSize.{process_depth, definition_depth, procs_depth, defs_depth}
use Rattle.guard_compile.proofs.Loops.{Writing, Defining}
use Rattle.guard_compile.proofs.write.Writer.+write.Given as goal

abbrev pub invariant-write_all-loop-member : goal.invariant-write_all-loop-member
invariant-write_all-loop-member l =
    Writing l.initial.self l.initial.piece l.initial.instrs l.member-items l.self l.piece l.instrs
    (drop l.member-index l.member-items)

abbrev pub invariant-write_defs-loop-definition : goal.invariant-write_defs-loop-definition
invariant-write_defs-loop-definition l =
    Defining l.initial.self l.within l.initial.defined l.initial.named l.definition-items
    l.self l.defined l.named (drop l.definition-index l.definition-items)

-- a step to a part counts four times, so that a function may hand a term on to another, and so on
-- three times
abbrev pub decreases-write : goal.decreases-write
decreases-write l = 4 * process_depth l.process.now

abbrev pub decreases-write_all : goal.decreases-write_all
decreases-write_all l = 4 * procs_depth l.members.now

abbrev pub decreases-write_defs : goal.decreases-write_defs
decreases-write_defs l = 4 * defs_depth l.defs.now

abbrev pub decreases-write_def : goal.decreases-write_def
decreases-write_def l = 4 * definition_depth l.definition.now

abbrev pub decreases-write_block : goal.decreases-write_block
decreases-write_block l = 4 * max (defs_depth l.defs.now) (process_depth l.body.now) + 2

abbrev pub decreases-write_begun : goal.decreases-write_begun
decreases-write_begun l = 4 * max (defs_depth l.defs.now) (process_depth l.body.now) + 1

abbrev pub decreases-write_body : goal.decreases-write_body
decreases-write_body l = 4 * process_depth l.process.now + 1

abbrev pub decreases-write_place : goal.decreases-write_place
decreases-write_place l = 4 * max (defs_depth l.defs.now) (process_depth l.body.now) + 2
