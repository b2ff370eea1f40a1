use Rattle.std.proofs.Common.{◌≤◌, ◌-◌, ◌∷◌, [], length}
use Rattle.join_parse.specs.Begins.{Args, MoreArgs}
use Rattle.join_parse.specs.inside.Parsed.{AtMost, Reads}
use Rattle.join_parse.proofs.Listed.{ListedArgs}
use Rattle.join_parse.proofs.names.args.Given as goal

abbrev pub invariant-commas : goal.invariant-commas
invariant-commas l = record {
  reads :
      Reads l.b (AtMost l.b.levels) l.tokens l.at (Args ∷ []) l.end (MoreArgs (length l.list) ∷ []);
  listed : ListedArgs l.b.second l.tokens l.at l.end l.list;
  few : length l.list ≤ 255;
}

abbrev pub decreases-commas : goal.decreases-commas
decreases-commas l = length l.tokens - l.end
