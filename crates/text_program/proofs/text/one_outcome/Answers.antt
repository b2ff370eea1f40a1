use Rattle.text_program.proofs.Refusals.{one_outcome}
use Rattle.text_program.proofs.text.one_outcome.Goals as goal

pub returns : goal.returns
returns c = one_outcome c.one_outcome.ensures c.one_outcome-2.ensures c.one_outcome-3.ensures
