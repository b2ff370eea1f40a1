-- What `strip_prefix` says, as what is behind the text.
use Rattle.std.proofs.lemmas.Bool.Decides.{Decides-eqb}
use Rattle.std.proofs.lemmas.Slice.Eq.{strip_prefix_is}
use Rattle.trace_text.proofs.Fronts.{behind_is}
use Rattle.trace_text.proofs.fields.behind.Goals as goal

pub returns-clause-is : goal.returns-clause-is
returns-clause-is c =
    behind_is c.args.text.now c.args.bytes.now c.strip_prefix.result (strip_prefix_is Decides-eqb
    c.args.bytes.now c.args.text.now c.strip_prefix.result c.strip_prefix.ensures.cases)
