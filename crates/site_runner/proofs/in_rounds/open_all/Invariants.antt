use Rattle.std.proofs.Common.{◌-◌, ◌≡◌, ◌≤◌, length}
use Rattle.std.specs.List.{range_with_len}
use Rattle.net_core.specs.Scheduling.{Opens, ReadyOpensNone, numbers}
use Rattle.site_runner.proofs.Rounding.{TurnsWay}
use Rattle.site_runner.proofs.in_rounds.open_all.Given as goal

abbrev pub invariant-loop-site : goal.invariant-loop-site
invariant-loop-site l = record {
  way :
      TurnsWay Opens ReadyOpensNone l.budget (numbers l.fn.net.net)
      l.fn.net l.fn.book (range_with_len l.site (l.sites - l.site)) l.net l.book;
  within : length l.book.journal ≤ l.budget;
  sites : l.sites ≡ length l.net.net.sites;
}
