use Rattle.std.proofs.Common.{◌≡◌, ◌++◌, drop}
use Rattle.chem_model.specs.Binders.{params_of}
use Rattle.guard_compile.proofs.layout.push_params.Given as goal

abbrev pub invariant-loop-pat : goal.invariant-loop-pat
invariant-loop-pat l =
    l.layout ++ params_of (drop l.pat-index l.pat-items) ≡ l.initial.layout ++ params_of l.pat-items
