use Rattle.std.proofs.Common.{◌≡◌, ◌++◌, drop}
use Rattle.site_solution.proofs.parcels.copies.Given as goal

abbrev pub invariant-loop-waiting : goal.invariant-loop-waiting
invariant-loop-waiting l = l.copies.items ++ drop l.waiting-index l.messages ≡ l.messages
