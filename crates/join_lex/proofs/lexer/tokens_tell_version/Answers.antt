use Rattle.join_lex.proofs.VersionLaws.{told}
use Rattle.join_lex.proofs.lexer.tokens_tell_version.Goals as goal

pub returns : goal.returns
returns c = told
