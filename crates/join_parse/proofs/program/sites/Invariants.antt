use Rattle.std.proofs.Common.{◌-◌, ◌∷◌, [], length, false}
use Rattle.join_parse.specs.Grammar.{IsNotEmpty}
use Rattle.join_parse.specs.Begins.{AName, ASite, Body, Sites}
use Rattle.join_parse.specs.inside.Parsed.{Exactly, Reads}
use Rattle.join_parse.proofs.Listed.{ListedSites}
use Rattle.join_parse.proofs.program.sites.Given as goal

abbrev pub invariant-sites : goal.invariant-sites
invariant-sites l = record {
  reads :
      Reads l.b (Exactly 0) l.tokens l.at (ASite ∷ AName ∷ Body false ∷ Sites ∷ [])
      l.end (Sites ∷ []);
  listed : ListedSites l.b.second l.tokens l.at l.end l.list;
  some : IsNotEmpty l.list;
}

abbrev pub decreases-sites : goal.decreases-sites
decreases-sites l = length l.tokens - l.end
