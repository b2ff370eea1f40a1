use Rattle.shared_net.specs.Turning.{HaveSameOwners}
use Rattle.shared_tests.proofs.runs.first_other.Given as goal

abbrev pub invariant-loop-at : goal.invariant-loop-at
invariant-loop-at g l = HaveSameOwners l.initial.passes l.passes
