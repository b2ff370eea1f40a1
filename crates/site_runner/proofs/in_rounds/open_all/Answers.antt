-- Each site has its turn, until all had theirs or the budget is spent.
use Rattle.std.proofs.Common.{◌≡◌, ℕ, suc, ◌+◌, ◌-◌, ◌<◌, ◌≤◌, ◌∙◌, ap, subst, arith, length}
use Rattle.std.specs.List.{range_with_len}
use Rattle.net_core.specs.Scheduling.{Opens, ReadyOpensNone, numbers}
use Rattle.site_runner.proofs.Rounding.{TurnsWay, turn_goes, turn_within, turns_spent, turns_over}
use Rattle.site_runner.proofs.Rounding.{same_sites}
use Rattle.site_runner.proofs.in_rounds.open_all.Goals as goal

pub returns-then-len-budget-clause-opens : goal.returns-then-len-budget-clause-opens
returns-then-len-budget-clause-opens c =
    let same : c.len.result ≡ length c.loop-site.book.journal =
    c.len.ensures.count ∙ ap length c.journal.ensures in
    let full : c.args.budget ≤ length c.loop-site.book.journal = omega arith in
    turns_spent Opens ReadyOpensNone c.args.budget (numbers c.args.net.now.net)
    (range_with_len c.loop-site.site (c.sites-sites.result - c.loop-site.site))
    c.args.net.now c.loop-site.net c.args.book.now c.loop-site.book c.loop-site.invariant.way full

pub loop-site-preserved : goal.loop-site-preserved
loop-site-preserved c =
    let same : c.len.result ≡ length c.loop-site.book.journal =
    c.len.ensures.count ∙ ap length c.journal.ensures in
    let low : length c.loop-site.book.journal < c.args.budget = omega arith in
    let one : c.sites-sites.result - c.loop-site.site
    ≡ suc (c.sites-sites.result - (c.loop-site.site + 1)) = omega arith in
    let left =
    range_with_len (c.loop-site.site + 1) (c.sites-sites.result - (c.loop-site.site + 1)) in
    let way : TurnsWay Opens ReadyOpensNone c.args.budget (numbers c.args.net.now.net)
    c.args.net.now c.args.book.now
    (range_with_len c.loop-site.site (suc (c.sites-sites.result - (c.loop-site.site + 1))))
    c.loop-site.net c.loop-site.book =
    subst (λ (k : ℕ). TurnsWay Opens ReadyOpensNone c.args.budget (numbers c.args.net.now.net)
    c.args.net.now c.args.book.now (range_with_len c.loop-site.site k)
    c.loop-site.net c.loop-site.book) one c.loop-site.invariant.way in
    let turn = c.in_ok-open_at.ensures in
    record {
      way = turn_goes Opens ReadyOpensNone c.args.budget c.loop-site.net c.open_at.new.net
          c.loop-site.book c.open_at.new.book c.loop-site.site left low turn
          (numbers c.args.net.now.net) c.args.net.now c.args.book.now way;
      within = turn_within Opens ReadyOpensNone c.args.budget c.loop-site.net c.open_at.new.net
          c.loop-site.book c.open_at.new.book c.loop-site.site left low turn;
      sites = c.loop-site.invariant.sites
          ∙ same_sites c.loop-site.book c.open_at.new.book c.loop-site.net c.open_at.new.net
          turn.added c.loop-site.invariant.way.one turn.book_is turn.one;
    }

pub returns-clause-opens : goal.returns-clause-opens
returns-clause-opens c =
    let none : c.sites-sites.result - c.loop-site.site ≡ 0 = omega arith in
    turns_over Opens ReadyOpensNone c.args.budget (numbers c.args.net.now.net)
    (range_with_len c.loop-site.site (c.sites-sites.result - c.loop-site.site))
    c.args.net.now c.loop-site.net c.args.book.now c.loop-site.book c.loop-site.invariant.way
    (ap (λ (k : ℕ). range_with_len c.loop-site.site k) none)
