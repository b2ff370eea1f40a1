use Rattle.trace_text.proofs.WholeLog.{has_one}
use Rattle.trace_text.proofs.read.one_outcome.Goals as goal

pub returns : goal.returns
returns c = has_one
