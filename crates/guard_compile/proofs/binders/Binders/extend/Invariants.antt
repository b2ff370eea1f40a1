use Rattle.std.proofs.Common.{◌≡◌, ◌++◌, drop}
use Rattle.guard_compile.proofs.binders.Binders.extend.Given as goal

abbrev pub invariant-loop-binder : goal.invariant-loop-binder
invariant-loop-binder l = l.self ++ drop l.binder-index l.binders ≡ l.initial.self ++ l.binders
