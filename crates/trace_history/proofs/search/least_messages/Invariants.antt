use Rattle.std.proofs.Common.{take, ◌++◌}
use Rattle.trace_history.specs.inside.Search.{AreLeast}
use Rattle.trace_history.proofs.search.least_messages.Given as goal

abbrev pub invariant-loop-pat : goal.invariant-loop-pat
invariant-loop-pat l =
    AreLeast (l.older.table ++ l.numbered.atoms) l.at (take l.pat-index l.pat-items) l.took
