use Rattle.std.proofs.Common.{◌≡◌, List, drop}
use Rattle.join_parse.specs.Terminals.{Terminal}
use Rattle.join_parse.specs.Source.{processes, definitions}
use Rattle.join_parse.specs.Grammar.{nowhere, of_processes, of_definitions}
use Rattle.join_parse.specs.inside.Printed.{spaced}
use Rattle.join_parse.proofs.LeftToPrint.{left_processes, left_definitions}
use Rattle.join_parse.specs.SourceSize.{process_depth, definition_depth, procs_depth, defs_depth}
use Rattle.join_parse.specs.Members.{place_depth}
use Rattle.join_parse.proofs.print.+print.Given as goal

abbrev pub invariant-put_processes-loop-member : goal.invariant-put_processes-loop-member
invariant-put_processes-loop-member l = (rest : List Terminal)
    → spaced l.fn.out (of_processes nowhere (processes l.member-items) rest)
    ≡ spaced l.out (left_processes l.first (processes (drop l.member-index l.member-items)) rest)

abbrev pub invariant-put_definitions-loop-member : goal.invariant-put_definitions-loop-member
invariant-put_definitions-loop-member l = (rest : List Terminal)
    → spaced l.fn.out (of_definitions nowhere (definitions l.member-items) rest)
    ≡ spaced l.out
    (left_definitions l.first (definitions (drop l.member-index l.member-items)) rest)

abbrev pub decreases-put_processes : goal.decreases-put_processes
decreases-put_processes l = procs_depth l.list.now

abbrev pub decreases-put_process : goal.decreases-put_process
decreases-put_process l = process_depth l.process.now

abbrev pub decreases-put_definitions : goal.decreases-put_definitions
decreases-put_definitions l = defs_depth l.list.now

abbrev pub decreases-put_definition : goal.decreases-put_definition
decreases-put_definition l = definition_depth l.definition.now

abbrev pub decreases-put_place : goal.decreases-put_place
decreases-put_place l = place_depth l.place.now
