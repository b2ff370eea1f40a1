use Rattle.std.proofs.Common.{◌≤◌, ◌+◌, ◌*◌, ◌-◌, ◌∷◌, [], length}
use Rattle.join_parse.specs.Begins.{AProc, Defs, MoreDefs}
use Rattle.join_parse.specs.inside.Parsed.{Exactly, Runs, Reads}
use Rattle.join_parse.proofs.Listed.{ListedProcesses, ListedDefinitions}
use Rattle.join_parse.proofs.process.+processes.Given as goal

abbrev pub decreases-processes : goal.decreases-processes
decreases-processes l = 3 * (length l.tokens.now - l.at) + 2

abbrev pub decreases-simple : goal.decreases-simple
decreases-simple l = 3 * (length l.tokens.now - l.at) + 1

abbrev pub decreases-group : goal.decreases-group
decreases-group l = 3 * (length l.tokens.now - l.at)

abbrev pub decreases-def_in : goal.decreases-def_in
decreases-def_in l = 3 * (length l.tokens.now - l.at)

abbrev pub decreases-definitions : goal.decreases-definitions
decreases-definitions l = 3 * (length l.tokens.now - l.at) + 2

abbrev pub decreases-definition : goal.decreases-definition
decreases-definition l = 3 * (length l.tokens.now - l.at) + 1

abbrev pub decreases-rule : goal.decreases-rule
decreases-rule l = 3 * (length l.tokens.now - l.at)

abbrev pub decreases-place : goal.decreases-place
decreases-place l = 3 * (length l.tokens.now - l.at)

abbrev pub decreases-body : goal.decreases-body
decreases-body l = 3 * (length l.tokens.now - l.at)

abbrev pub invariant-processes-members : goal.invariant-processes-members
invariant-processes-members l = record {
  runs : Runs l.b (Exactly l.depth) l.tokens l.at (AProc ∷ []) l.end (AProc ∷ []);
  from : l.at ≤ l.end;
  listed : ListedProcesses l.b.second l.tokens l.at l.end l.list;
}

abbrev pub decreases-processes-members : goal.decreases-processes-members
decreases-processes-members l = length l.tokens - l.end

abbrev pub invariant-definitions-ands : goal.invariant-definitions-ands
invariant-definitions-ands l = record {
  reads :
      Reads l.b (Exactly l.depth) l.tokens l.at (Defs l.within ∷ []) l.end (MoreDefs l.within ∷ []);
  listed : ListedDefinitions l.b.second l.tokens l.at l.end l.within l.list;
}

abbrev pub decreases-definitions-ands : goal.decreases-definitions-ands
decreases-definitions-ands l = length l.tokens - l.end
