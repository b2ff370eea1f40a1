use Rattle.std.proofs.Common.{◌-◌, ◌*◌, ◌+◌, ◌^◌, ◌≤◌, length}
use Rattle.net_core.specs.Falling.{deliveries_left}
use Rattle.site_runner.proofs.Rounding.{GoesWay}
use Rattle.site_runner.proofs.in_rounds.go_on.Given as goal

abbrev pub invariant-choices : goal.invariant-choices
invariant-choices l = record {
  way : GoesWay l.budget l.fn.net l.fn.book l.net l.book;
  within : length l.book.journal ≤ l.budget;
}

abbrev pub decreases-choices : goal.decreases-choices
decreases-choices l = (l.budget - length l.book.journal) * 2 ^ 33 + deliveries_left l.net.net
