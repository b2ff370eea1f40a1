use Rattle.std.proofs.Common.{length, ◌-◌, ◌≤◌}
use Rattle.join_lex.specs.Spelling.{first_version}
use Rattle.join_lex.proofs.Passed.{Passed}
use Rattle.join_lex.proofs.VersionLaws.{Settled}
use Rattle.join_lex.proofs.lexer.tokens_of.Given as goal

abbrev pub invariant-first : goal.invariant-first
invariant-first l = Passed first_version l.bytes l.place l.list × (length l.list ≤ 3)

abbrev pub decreases-first : goal.decreases-first
decreases-first l = length l.bytes - l.place

abbrev pub invariant-others : goal.invariant-others
invariant-others l = Settled l.second l.bytes l.place l.list

abbrev pub decreases-others : goal.decreases-others
decreases-others l = length l.bytes - l.place
