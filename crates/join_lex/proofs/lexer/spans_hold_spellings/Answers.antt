use Rattle.join_lex.proofs.VersionLaws.{spellings-held}
use Rattle.join_lex.proofs.lexer.spans_hold_spellings.Goals as goal

pub returns : goal.returns
returns c = spellings-held
