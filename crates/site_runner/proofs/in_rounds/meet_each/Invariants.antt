use Rattle.std.proofs.Common.{drop, ◌≤◌, length}
use Rattle.net_core.specs.Asking.{asks}
use Rattle.net_core.specs.Scheduling.{Meets, Forbids}
use Rattle.site_runner.proofs.Rounding.{TurnsWay}
use Rattle.site_runner.proofs.in_rounds.meet_each.Given as goal

abbrev pub invariant-loop-choice : goal.invariant-loop-choice
invariant-loop-choice l = record {
  way :
      TurnsWay Meets Forbids l.budget (asks l.fn.net.net)
      l.fn.net l.fn.book (drop l.choice-index l.choice-items) l.net l.book;
  within : length l.book.journal ≤ l.budget;
}
