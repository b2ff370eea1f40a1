-- The text by the binders of the map is the text by the names that were given.
use Rattle.trace_text.proofs.Lists.{ok_then}
use Rattle.trace_text.proofs.Telling.{trace_alike}
use Rattle.trace_text.proofs.trace.run_text.Goals as goal

pub returns : goal.returns
returns c = ok_then c.text_by-text.result _ _ c.text_by-text.ensures (trace_alike c.args.program.now
    c.in_ok-binders.binders c.args.named.now c.in_ok-binders.ensures c.args.outs.now c.args.ending)
