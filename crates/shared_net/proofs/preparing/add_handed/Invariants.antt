use Rattle.std.proofs.Common.{◌≡◌, length}
use Rattle.shared_net.specs.inside.Beginning.{with_sends}
use Rattle.shared_net.proofs.preparing.add_handed.Given as goal

abbrev pub invariant-loop-effects : goal.invariant-loop-effects
invariant-loop-effects l =
    with_sends l.handed.items l.mails ≡ with_sends l.initial.handed.items l.initial.mails

abbrev pub decreases-loop-effects : goal.decreases-loop-effects
decreases-loop-effects l = length l.handed.items
