use Rattle.std.proofs.Common.{◌≡◌, drop}
use Rattle.trace_text.specs.TraceText.{ranked_after, arguments}
use Rattle.trace_text.proofs.names.add_all_ranked.Given as goal

abbrev pub invariant-loop-out : goal.invariant-loop-out
invariant-loop-out l =
    ranked_after l.program l.binders l.ranks (arguments (drop l.out-index l.out-items))
    ≡ ranked_after l.program l.binders l.initial.ranks (arguments l.out-items)
