use Rattle.std.proofs.Common.{◌≡◌, ◌++◌, drop}
use Rattle.chem_model.specs.Process.{processes, definitions}
use Rattle.chem_model.specs.ProcessSize.{process_depth, definition_depth, procs_depth, defs_depth}
use Rattle.chem_plain.specs.inside.PouredBy.{all_poured_by, places_by}
use Rattle.chem_plain.proofs.pour.+pour.Given as goal

abbrev pub invariant-pour_all-loop-member : goal.invariant-pour_all-loop-member
invariant-pour_all-loop-member l =
    let rest = all_poured_by l.by l.made.next (processes (drop l.member-index l.member-items)) in
    let all = all_poured_by l.by l.initial.made.next (processes l.member-items) in
    (rest.next ≡ all.next)
    × (l.made.births ++ rest.births ≡ l.initial.made.births ++ all.births)
    × (l.made.named ++ rest.named ≡ l.initial.made.named ++ all.named)
    × (l.made.rules ++ rest.rules ≡ l.initial.made.rules ++ all.rules)
    × (l.made.atoms ++ rest.atoms ≡ l.initial.made.atoms ++ all.atoms)
    × (l.made.outs ++ rest.outs ≡ l.initial.made.outs ++ all.outs)

abbrev pub invariant-lay_places-loop-definition : goal.invariant-lay_places-loop-definition
invariant-lay_places-loop-definition l =
    let rest =
    places_by l.by l.made.next (definitions (drop l.definition-index l.definition-items)) in
    let all = places_by l.by l.initial.made.next (definitions l.definition-items) in
    (rest.next ≡ all.next)
    × (l.made.births ++ rest.births ≡ l.initial.made.births ++ all.births)
    × (l.made.named ++ rest.named ≡ l.initial.made.named ++ all.named)
    × (l.made.rules ++ rest.rules ≡ l.initial.made.rules ++ all.rules)
    × (l.made.atoms ++ rest.atoms ≡ l.initial.made.atoms ++ all.atoms)
    × (l.made.outs ++ rest.outs ≡ l.initial.made.outs ++ all.outs)

abbrev pub decreases-pour : goal.decreases-pour
decreases-pour l = process_depth l.process.now

abbrev pub decreases-pour_all : goal.decreases-pour_all
decreases-pour_all l = procs_depth l.members.now

abbrev pub decreases-lay_place : goal.decreases-lay_place
decreases-lay_place l = definition_depth l.definition.now

abbrev pub decreases-lay_places : goal.decreases-lay_places
decreases-lay_places l = defs_depth l.defs.now
