use Rattle.scope_check.proofs.Answer.{one_outcome}
use Rattle.scope_check.proofs.checks.one_outcome.Goals as goal

pub returns : goal.returns
returns c = one_outcome
