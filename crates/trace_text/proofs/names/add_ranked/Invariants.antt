use Rattle.std.proofs.Common.{◌≡◌, drop}
use Rattle.trace_text.specs.TraceText.{ranked_after}
use Rattle.trace_text.proofs.names.add_ranked.Given as goal

abbrev pub invariant-loop-arg : goal.invariant-loop-arg
invariant-loop-arg l = ranked_after l.program l.binders l.ranks (drop l.arg-index l.arg-items)
    ≡ ranked_after l.program l.binders l.initial.ranks l.arg-items
