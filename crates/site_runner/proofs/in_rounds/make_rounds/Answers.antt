-- Each round goes on from the one before, until one makes nothing and leaves nothing under way, or
-- few events are left.
use Rattle.std.proofs.Common.{◌≡◌, ◌∙◌, ◌-◌, ◌<◌, ◌≤◌, ap, sym, subst, length, ℕ, [], arith}
use Rattle.shared_net.proofs.Results.{on_ok}
use Rattle.site_runner.proofs.Rounding.{begins, Rounds, few_ends, idle_ends, round_goes}
use Rattle.site_runner.proofs.Rounding.{round_falls, some_sites, was_left, on_err, on_err_so}
use Rattle.site_runner.proofs.in_rounds.make_rounds.Goals as goal

pub rounds-init : goal.rounds-init
rounds-init g c = record {
  way = begins (Rounds c.args.budget c.args.net.code c.args.net c.args.book.now)
      c.args.net c.args.book.now c.requires.one;
  within = c.requires.within;
}

pub returns-then-budget-before-clause-rounds : goal.returns-then-budget-before-clause-rounds
returns-then-budget-before-clause-rounds g c =
    let before : c.len-before.result ≡ length c.rounds.book.journal =
    c.len-before.ensures.count ∙ ap length c.journal.ensures in
    let few : c.args.budget - length c.rounds.book.journal < length c.rounds.net.net.sites =
    subst (λ (k : ℕ). c.args.budget - length c.rounds.book.journal < k) c.sites.ensures
    (subst (λ (k : ℕ). c.args.budget - k < c.sites.result) before c.if-budget-before.true) in
    on_ok _ _ c.go_on-went.result (λ went. (
      c.go_on-went.new.net,
      few_ends c.args.budget c.args.net c.rounds.net c.go_on-went.new.net c.args.book.now
          c.rounds.book c.go_on-went.new.book c.rounds.invariant.way few went,
    )) c.go_on-went.ensures.goes

pub returns-then-budget-before-clause-left : goal.returns-then-budget-before-clause-left
returns-then-budget-before-clause-left g c =
    on_err_so c.go_on-went.result (λ low. was_left c.args.budget c.args.book.now c.rounds.book
    c.rounds.invariant.way.added c.rounds.invariant.way.book_is low) c.go_on-went.ensures.left

pub returns-then-is_over-clause-rounds : goal.returns-then-is_over-clause-rounds
returns-then-is_over-clause-rounds g c =
    let before : c.len-before.result ≡ length c.rounds.book.journal =
    c.len-before.ensures.count ∙ ap length c.journal.ensures in
    let after : c.len-after.result ≡ length c.one_round.new.book.journal =
    c.len-after.ensures.count ∙ ap length c.journal-in-rounds.ensures in
    let many : length c.rounds.net.net.sites ≤ c.args.budget - length c.rounds.book.journal =
    subst (λ (k : ℕ). k ≤ c.args.budget - length c.rounds.book.journal) c.sites.ensures
    (subst (λ (k : ℕ). c.sites.result ≤ c.args.budget - k) before c.if-budget-before.false) in
    let idle = c.is_over.ensures.yes c.if-is_over.true in (
      c.in_ok-net.net,
      idle_ends c.args.budget c.args.net c.rounds.net c.in_ok-net.net c.args.book.now c.rounds.book
          c.one_round.new.book c.rounds.invariant.way many
          c.in_ok-net.ensures.round (sym after ∙ idle.0 ∙ before) idle.1,
    )

pub rounds-smaller : goal.rounds-smaller
rounds-smaller g c =
    let before : c.len-before.result ≡ length c.rounds.book.journal =
    c.len-before.ensures.count ∙ ap length c.journal.ensures in
    let after : c.len-after.result ≡ length c.one_round.new.book.journal =
    c.len-after.ensures.count ∙ ap length c.journal-in-rounds.ensures in
    let more = λ (e : length c.one_round.new.book.journal ≡ length c.rounds.book.journal)
    (z : c.in_ok-net.net.net.packets ≡ []).
    c.is_over.ensures.no c.if-is_over.false (after ∙ e ∙ sym before) z in
    round_falls c.args.budget c.rounds.net c.in_ok-net.net c.rounds.book c.one_round.new.book
    c.rounds.invariant.way.one c.few_under_way.ensures c.in_ok-net.ensures.within
    c.in_ok-net.ensures.round more

pub rounds-preserved : goal.rounds-preserved
rounds-preserved g c =
    let before : c.len-before.result ≡ length c.rounds.book.journal =
    c.len-before.ensures.count ∙ ap length c.journal.ensures in
    let after : c.len-after.result ≡ length c.one_round.new.book.journal =
    c.len-after.ensures.count ∙ ap length c.journal-in-rounds.ensures in
    let many : length c.rounds.net.net.sites ≤ c.args.budget - length c.rounds.book.journal =
    subst (λ (k : ℕ). k ≤ c.args.budget - length c.rounds.book.journal) c.sites.ensures
    (subst (λ (k : ℕ). c.sites.result ≤ c.args.budget - k) before c.if-budget-before.false) in
    let more = λ (e : length c.one_round.new.book.journal ≡ length c.rounds.book.journal)
    (z : c.in_ok-net.net.net.packets ≡ []).
    c.is_over.ensures.no c.if-is_over.false (after ∙ e ∙ sym before) z in
    record {
      way = round_goes c.args.budget c.args.net c.rounds.net c.in_ok-net.net c.args.book.now
          c.rounds.book c.one_round.new.book c.rounds.invariant.way many
          c.in_ok-net.ensures.round more;
      within = c.in_ok-net.ensures.within;
    }

pub returns-in_err-net-clause-left : goal.returns-in_err-net-clause-left
returns-in_err-net-clause-left g c =
    let before : c.len-before.result ≡ length c.rounds.book.journal =
    c.len-before.ensures.count ∙ ap length c.journal.ensures in
    let some : 0 < length c.rounds.net.net.sites =
    some_sites c.rounds.book c.rounds.net c.rounds.invariant.way.one in
    let many : length c.rounds.net.net.sites ≤ c.args.budget - length c.rounds.book.journal =
    subst (λ (k : ℕ). k ≤ c.args.budget - length c.rounds.book.journal) c.sites.ensures
    (subst (λ (k : ℕ). c.sites.result ≤ c.args.budget - k) before c.if-budget-before.false) in
    let low : length c.rounds.book.journal < c.args.budget = omega arith in
    let left : length c.args.book.now.journal < c.args.budget =
    was_left c.args.budget c.args.book.now c.rounds.book c.rounds.invariant.way.added
    c.rounds.invariant.way.book_is low in
    on_err c.from_residual.result left
