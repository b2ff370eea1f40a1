use Rattle.std.proofs.Common.{◌≡◌, ◌++◌, drop}
use Rattle.trace_text.specs.inside.Later.{later_text}
use Rattle.trace_text.proofs.trace.push_later.Given as goal

abbrev pub invariant-loop-name : goal.invariant-loop-name
invariant-loop-name l = l.text ++ later_text l.program l.binders l.ranks (drop l.name-index l.names)
    ≡ l.initial.text ++ later_text l.program l.binders l.ranks l.names
