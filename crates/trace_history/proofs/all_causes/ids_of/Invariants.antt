use Rattle.std.proofs.Common.{◌≡◌, ◌++◌, drop, map}
use Rattle.chem_causes.specs.declared.cause.Left.{Left}
use Rattle.trace_history.proofs.all_causes.ids_of.Given as goal

abbrev pub invariant-loop-left : goal.invariant-loop-left
invariant-loop-left l = l.ids ++ map (λ (x : Left). x.atom) (drop l.left-index l.lefts)
    ≡ map (λ (x : Left). x.atom) l.lefts
