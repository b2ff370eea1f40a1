use Rattle.std.proofs.Common.{◌≡◌, drop}
use Rattle.chem_model.specs.Pour.{name_pats}
use Rattle.guard_compile.specs.inside.Drawing.{drawn}
use Rattle.guard_compile.proofs.names.Drawing.name_pats.Given as goal

abbrev pub invariant-loop-pat : goal.invariant-loop-pat
invariant-loop-pat l = name_pats l.site l.home (drop l.pat-index l.pat-items) (drawn l.self)
    ≡ name_pats l.site l.home l.pat-items (drawn l.initial.self)
