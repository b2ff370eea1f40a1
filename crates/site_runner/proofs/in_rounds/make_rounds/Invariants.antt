use Rattle.std.proofs.Common.{◌-◌, ◌*◌, ◌+◌, ◌^◌, ◌≤◌, length}
use Rattle.net_core.specs.Falling.{deliveries_left}
use Rattle.site_runner.proofs.Rounding.{RoundsWay}
use Rattle.site_runner.proofs.in_rounds.make_rounds.Given as goal

abbrev pub invariant-rounds : goal.invariant-rounds
invariant-rounds g l = record {
  way : RoundsWay l.budget l.fn.net l.fn.book l.net l.book;
  within : length l.book.journal ≤ l.budget;
}

abbrev pub decreases-rounds : goal.decreases-rounds
decreases-rounds g l = (l.budget - length l.book.journal) * 2 ^ 33 + deliveries_left l.net.net
