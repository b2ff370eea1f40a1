use Rattle.std.proofs.Common.{◌-◌, ◌∷◌, [], length}
use Rattle.join_lex.specs.declared.token.Sign.TheVariants as sign
use Rattle.join_parse.specs.Begins.{AName, ASign, Names, MorePatterns}
use Rattle.join_parse.specs.inside.Parsed.{AtMost, Reads}
use Rattle.join_parse.proofs.Listed.{ListedPatterns}
use Rattle.join_parse.proofs.names.patterns.Given as goal

abbrev pub invariant-bars : goal.invariant-bars
invariant-bars l = record {
  reads :
      Reads l.b (AtMost l.b.levels) l.tokens l.at
      (AName ∷ ASign sign.ParenLeft ∷ Names ∷ MorePatterns ∷ []) l.end (MorePatterns ∷ []);
  listed : ListedPatterns l.tokens l.at l.end l.list;
}

abbrev pub decreases-bars : goal.decreases-bars
decreases-bars l = length l.tokens - l.end
