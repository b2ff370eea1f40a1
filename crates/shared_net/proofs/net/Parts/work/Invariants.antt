use Rattle.std.proofs.Common.{◌≡◌, ◌<◌}
use Rattle.shared_net.specs.Turning.{owner}
use Rattle.shared_net.proofs.net.Parts.work.Given as goal

abbrev pub invariant-loop-turn : goal.invariant-loop-turn
invariant-loop-turn g l = record {
  more : (goal.iterator-loop-turn g).can_next l._turn-iterator;
  finite : (goal.iterator-loop-turn g).is_finite l._turn-iterator;
  within : l.site < l.sites;
  same : owner l.pass ≡ owner l.initial.pass;
}
