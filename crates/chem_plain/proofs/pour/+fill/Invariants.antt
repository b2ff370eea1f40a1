use Rattle.std.proofs.Common.{◌≡◌, ◌++◌, map, drop}
use Rattle.chem_model.specs.Fill.{fill, fill_definition}
use Rattle.chem_model.specs.ProcessSize.{process_depth, definition_depth, procs_depth, defs_depth}
use Rattle.chem_plain.specs.inside.Names.{names_of}
use Rattle.chem_plain.proofs.pour.+fill.Given as goal

abbrev pub invariant-fill_all-loop-member : goal.invariant-fill_all-loop-member
invariant-fill_all-loop-member l =
    l.list ++ map (fill (names_of l.names)) (drop l.member-index l.member-items)
    ≡ map (fill (names_of l.names)) l.member-items

abbrev pub invariant-fill_definitions-loop-definition :
    goal.invariant-fill_definitions-loop-definition
invariant-fill_definitions-loop-definition l =
    l.list ++ map (fill_definition (names_of l.names)) (drop l.definition-index l.definition-items)
    ≡ map (fill_definition (names_of l.names)) l.definition-items

abbrev pub decreases-fill : goal.decreases-fill
decreases-fill l = process_depth l.process.now

abbrev pub decreases-fill_all : goal.decreases-fill_all
decreases-fill_all l = procs_depth l.members.now

abbrev pub decreases-fill_definition : goal.decreases-fill_definition
decreases-fill_definition l = definition_depth l.definition.now

abbrev pub decreases-fill_definitions : goal.decreases-fill_definitions
decreases-fill_definitions l = defs_depth l.defs.now
