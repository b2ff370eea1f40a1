use Rattle.std.proofs.Common.{◌≡◌, ◌++◌, drop}
use Rattle.trace_text.specs.TraceText.{outs_text}
use Rattle.trace_text.proofs.trace.push_outs.Given as goal

abbrev pub invariant-loop-out : goal.invariant-loop-out
invariant-loop-out l =
    l.text ++ outs_text l.program l.binders l.ranks (drop l.out-index l.out-items)
    ≡ l.initial.text ++ outs_text l.program l.binders l.ranks l.out-items
