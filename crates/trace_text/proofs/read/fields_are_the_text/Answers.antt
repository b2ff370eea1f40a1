use Rattle.trace_text.proofs.WholeLog.{is_log, by_fields}
use Rattle.trace_text.proofs.read.fields_are_the_text.Goals as goal

pub returns : goal.returns
returns c = λ log bytes. (is_log log bytes, by_fields log bytes)
