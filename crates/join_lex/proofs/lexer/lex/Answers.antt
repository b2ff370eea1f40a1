use Rattle.join_lex.specs.Lexical.{AreTokensOf, IsFirstFault}
use Rattle.join_lex.proofs.StepLaws.{reads, refuses}
use Rattle.join_lex.proofs.VersionLaws.{whole-outcome}
use Rattle.join_lex.proofs.lexer.lex.Goals as goal

pub returns-clause-reads : goal.returns-clause-reads
returns-clause-reads c =
    let text = c.args.bytes.now in
    reads (λ t. AreTokensOf t text) (λ fault place. IsFirstFault fault place text) _
    (whole-outcome text) c.tokens_of.ensures.tokens c.tokens_of.ensures.fault

pub returns-clause-refuses : goal.returns-clause-refuses
returns-clause-refuses c =
    let text = c.args.bytes.now in
    refuses (λ t. AreTokensOf t text) (λ fault place. IsFirstFault fault place text) _
    (whole-outcome text) c.tokens_of.ensures.tokens c.tokens_of.ensures.fault
