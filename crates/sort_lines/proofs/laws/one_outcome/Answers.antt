use Rattle.sort_lines.proofs.Declared.{one_outcome}
use Rattle.sort_lines.proofs.laws.one_outcome.Goals as goal

pub returns : goal.returns
returns c = one_outcome
