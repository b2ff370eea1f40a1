use Rattle.std.proofs.Common.{◌≡◌, take}
use Rattle.chem_model.specs.ProcessSize.{process_depth, definition_depth, procs_depth, defs_depth}
use Rattle.chem_model.proofs.term.+copy.Given as goal

abbrev pub invariant-Items+Defn::copy-loop-member : goal.invariant-Items+Defn::copy-loop-member
invariant-Items+Defn::copy-loop-member l = l.list ≡ take l.member-index l.member-items

abbrev pub invariant-Items+Proc::copy-loop-member : goal.invariant-Items+Proc::copy-loop-member
invariant-Items+Proc::copy-loop-member l = l.list ≡ take l.member-index l.member-items

abbrev pub decreases-Items+Defn::copy : goal.decreases-Items+Defn::copy
decreases-Items+Defn::copy l = defs_depth l.self.now

abbrev pub decreases-Items+Proc::copy : goal.decreases-Items+Proc::copy
decreases-Items+Proc::copy l = procs_depth l.self.now

abbrev pub decreases-Defn::copy : goal.decreases-Defn::copy
decreases-Defn::copy l = definition_depth l.self.now

abbrev pub decreases-Proc::copy : goal.decreases-Proc::copy
decreases-Proc::copy l = process_depth l.self.now
