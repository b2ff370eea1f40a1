-- The text with the ranks that were found is that of the trace.
use Rattle.std.proofs.Common.{List, ◌++◌, ap}
use Rattle.chem_model.specs.declared.name.Name.{Name}
use Rattle.trace_text.specs.TraceText.{outs_text, ending_text}
use Rattle.trace_text.proofs.Lists.{ok_then}
use Rattle.trace_text.proofs.trace.text_by.Goals as goal

pub returns : goal.returns
returns c = ok_then c.ranked_text-text.result _ _ c.ranked_text-text.ensures (ap
    (λ (ranks : List Name). outs_text c.args.program.now c.args.binders.now ranks c.args.outs.now
    ++ ending_text c.args.ending) c.in_ok-ranks.ensures)
