use Rattle.std.proofs.Common.{◌≡◌, ◌++◌, drop}
use Rattle.chem_model.specs.Apply.{with_hosts}
use Rattle.chem_plain.proofs.effect.with_hosts.Given as goal

abbrev pub invariant-loop-placed : goal.invariant-loop-placed
invariant-loop-placed l = l.list ++ with_hosts l.at l.host (drop l.placed-index l.placed-items)
    ≡ with_hosts l.at l.host l.placed-items
