use Rattle.std.proofs.Common.{arith}
use Rattle.shared_tests.proofs.Lent.{may_close}
use Rattle.shared_tests.proofs.passes.close_all.Goals as goal

pub close-requires-clause-whole : goal.close-requires-clause-whole
close-requires-clause-whole g c =
    (may_close c.args.net.budget g.L.Ledger.parts c.args.passes c.requires.owners).whole

pub close-requires-clause-apart : goal.close-requires-clause-apart
close-requires-clause-apart g c =
    (may_close c.args.net.budget g.L.Ledger.parts c.args.passes c.requires.owners).apart

pub close-requires-clause-budget : goal.close-requires-clause-budget
close-requires-clause-budget g c =
    (may_close c.args.net.budget g.L.Ledger.parts c.args.passes c.requires.owners).budgets

pub close-requires-clause-some : goal.close-requires-clause-some
close-requires-clause-some g c = omega (
  arith,
  (may_close c.args.net.budget g.L.Ledger.parts c.args.passes c.requires.owners).whole,
  c.requires.some,
)
