use Rattle.std.proofs.Common.{◌≡◌, take}
use Rattle.join_parse.specs.SourceSize.{process_depth, definition_depth, procs_depth, defs_depth}
use Rattle.join_parse.specs.Members.{place_depth}
use Rattle.join_parse.proofs.tree.+copy.Given as goal

abbrev pub invariant-copy_definitions-loop-member : goal.invariant-copy_definitions-loop-member
invariant-copy_definitions-loop-member l = l.members ≡ take l.member-index l.member-items

abbrev pub invariant-copy_processes-loop-member : goal.invariant-copy_processes-loop-member
invariant-copy_processes-loop-member l = l.members ≡ take l.member-index l.member-items

abbrev pub decreases-copy_definitions : goal.decreases-copy_definitions
decreases-copy_definitions l = defs_depth l.list.now

abbrev pub decreases-copy_processes : goal.decreases-copy_processes
decreases-copy_processes l = procs_depth l.list.now

abbrev pub decreases-DefTree::copy : goal.decreases-DefTree::copy
decreases-DefTree::copy l = definition_depth l.self.now

abbrev pub decreases-PlaceTree::copy : goal.decreases-PlaceTree::copy
decreases-PlaceTree::copy l = place_depth l.self.now

abbrev pub decreases-ProcTree::copy : goal.decreases-ProcTree::copy
decreases-ProcTree::copy l = process_depth l.self.now
