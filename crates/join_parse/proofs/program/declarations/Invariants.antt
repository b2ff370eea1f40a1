use Rattle.std.proofs.Common.{◌≤◌, ◌-◌, ◌∷◌, [], length}
use Rattle.join_parse.specs.Begins.{Program}
use Rattle.join_parse.specs.inside.Parsed.{AtMost, Runs}
use Rattle.join_parse.proofs.Listed.{ListedDeclarations}
use Rattle.join_parse.proofs.program.declarations.Given as goal

abbrev pub invariant-observed : goal.invariant-observed
invariant-observed l = record {
  runs : Runs l.b (AtMost l.b.levels) l.tokens l.at (Program ∷ []) l.end (Program ∷ []);
  within : l.end ≤ length l.tokens;
  listed : ListedDeclarations l.tokens l.at l.end l.list;
}

abbrev pub decreases-observed : goal.decreases-observed
decreases-observed l = length l.tokens - l.end
