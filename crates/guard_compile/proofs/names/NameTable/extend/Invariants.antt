use Rattle.std.proofs.Common.{◌≡◌, ◌++◌, drop}
use Rattle.guard_compile.proofs.names.NameTable.extend.Given as goal

abbrev pub invariant-loop-entry : goal.invariant-loop-entry
invariant-loop-entry l = l.self ++ drop l.entry-index l.entries ≡ l.initial.self ++ l.entries
