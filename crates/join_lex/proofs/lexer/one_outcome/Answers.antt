use Rattle.join_lex.proofs.VersionLaws.{whole-outcome}
use Rattle.join_lex.proofs.lexer.one_outcome.Goals as goal

pub returns : goal.returns
returns c = whole-outcome
