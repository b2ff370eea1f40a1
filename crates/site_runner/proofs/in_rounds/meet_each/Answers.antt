-- Each request has its turn, until all had theirs or the budget is spent.
use Rattle.std.proofs.Common.{◌≡◌, ◌<◌, ◌≤◌, ◌∙◌, List, ap, sym, subst, arith, length, drop}
use Rattle.chem_model.specs.Each.{Each}
use Rattle.net_core.specs.declared.choice.Choice.{Choice}
use Rattle.net_core.specs.Asking.{asks, requests_of}
use Rattle.net_core.specs.Scheduling.{Meets, Forbids}
use Rattle.site_runner.specs.inside.RoundParts.{MeetsRequest}
use Rattle.site_runner.proofs.Rounding.{turn_at, turn_at_within, turns_spent, turns_over, each_at}
use Rattle.site_runner.proofs.Rounding.{none_after, are_requests}
use Rattle.site_runner.proofs.in_rounds.meet_each.Goals as goal

pub meet_one-requires-clause-request : goal.meet_one-requires-clause-request
meet_one-requires-clause-request c =
    let all : c.as_slice-choice-items.result.now ≡ asks c.args.net.now.net =
    c.as_slice-choice-items.ensures.members ∙ c.in_ok-choices.ensures in
    let each : Each MeetsRequest c.as_slice-choice-items.result.now =
    subst (λ (xs : List Choice). Each MeetsRequest xs) (sym all)
    (are_requests (requests_of c.args.net.now.net.sites)) in
    each_at MeetsRequest c.as_slice-choice-items.result.now c.loop-choice.choice-index _ each
    c.loop-choice-test.true

pub returns-then-len-budget-clause-meets : goal.returns-then-len-budget-clause-meets
returns-then-len-budget-clause-meets c =
    let same : c.len.result ≡ length c.loop-choice.book.journal =
    c.len.ensures.count ∙ ap length c.journal.ensures in
    let full : c.args.budget ≤ length c.loop-choice.book.journal = omega arith in
    turns_spent Meets Forbids c.args.budget (asks c.args.net.now.net)
    (drop c.loop-choice.choice-index c.as_slice-choice-items.result.now) c.args.net.now
    c.loop-choice.net c.args.book.now c.loop-choice.book c.loop-choice.invariant.way full

pub loop-choice-preserved : goal.loop-choice-preserved
loop-choice-preserved c =
    let same : c.len.result ≡ length c.loop-choice.book.journal =
    c.len.ensures.count ∙ ap length c.journal.ensures in
    let low : length c.loop-choice.book.journal < c.args.budget = omega arith in
    record {
      way = turn_at Meets Forbids c.args.budget c.loop-choice.net c.meet_one.new.net
          c.loop-choice.book c.meet_one.new.book c.as_slice-choice-items.result.now
          c.loop-choice.choice-index _ c.loop-choice-test.true low c.in_ok-meet_one.ensures
          (asks c.args.net.now.net) c.args.net.now c.args.book.now c.loop-choice.invariant.way;
      within = turn_at_within Meets Forbids c.args.budget c.loop-choice.net c.meet_one.new.net
          c.loop-choice.book c.meet_one.new.book _ low c.in_ok-meet_one.ensures;
    }

pub returns-clause-meets : goal.returns-clause-meets
returns-clause-meets c =
    turns_over Meets Forbids c.args.budget (asks c.args.net.now.net)
    (drop c.loop-choice.choice-index c.as_slice-choice-items.result.now)
    c.args.net.now c.loop-choice.net c.args.book.now c.loop-choice.book c.loop-choice.invariant.way
    (none_after c.loop-choice.choice-index c.as_slice-choice-items.result.now
    c.loop-choice-test.false)
