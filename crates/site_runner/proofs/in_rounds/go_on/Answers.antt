-- Each choice is the next one, until none is or the budget is spent.
use Rattle.std.proofs.Common.{◌≡◌, ◌<◌, ◌≤◌, ◌∙◌, ap, arith, length}
use Rattle.net_core.proofs.Picking.{next_allowed}
use Rattle.site_runner.proofs.Rounding.{fine, begins, Goes, goes_on, goes_rest, goes_spent}
use Rattle.site_runner.proofs.Rounding.{made_within, falls, was_left, on_err}
use Rattle.site_runner.proofs.in_rounds.go_on.Goals as goal

pub choices-init : goal.choices-init
choices-init c = record {
  way = begins (Goes c.args.budget c.args.net.now.code c.args.net.now c.args.book.now)
      c.args.net.now c.args.book.now c.requires.one;
  within = c.requires.within;
}

pub make-requires-clause-allowed : goal.make-requires-clause-allowed
make-requires-clause-allowed c =
    let one = c.choices.invariant.way.one in
    next_allowed c.choices.book.program c.choices.net.code c.choices.net.net
    (fine c.choices.book c.choices.net one)
    one.is_code c.in-Some.choice (rw c.in-Some.is at c.next.ensures.some)

pub returns-in_default-clause-goes : goal.returns-in_default-clause-goes
returns-in_default-clause-goes c =
    goes_rest c.args.budget c.args.net.now c.choices.net c.args.book.now c.choices.book
    c.choices.invariant.way (rw c.in_default.is at c.next.ensures.none)

pub choices-preserved : goal.choices-preserved
choices-preserved c =
    let same : c.len.result ≡ length c.choices.book.journal =
    c.len.ensures.count ∙ ap length c.journal.ensures in
    let low : length c.choices.book.journal < c.args.budget = omega arith in
    record {
      way = goes_on c.args.budget c.choices.net c.make.new.net c.choices.book c.make.new.book
          c.in-Some.choice low c.in_ok-make.ensures c.args.net.now c.args.book.now
          c.choices.invariant.way (rw c.in-Some.is at c.next.ensures.some);
      within = made_within c.args.budget c.choices.net c.make.new.net c.choices.book c.make.new.book
          c.in-Some.choice low c.in_ok-make.ensures;
    }

pub choices-smaller : goal.choices-smaller
choices-smaller c =
    let same : c.len.result ≡ length c.choices.book.journal =
    c.len.ensures.count ∙ ap length c.journal.ensures in
    let low : length c.choices.book.journal < c.args.budget = omega arith in
    falls c.args.budget c.choices.net c.make.new.net c.choices.book c.make.new.book c.in-Some.choice
    low c.in_ok-make.ensures

pub returns-clause-goes : goal.returns-clause-goes
returns-clause-goes c =
    let same : c.len.result ≡ length c.choices.book.journal =
    c.len.ensures.count ∙ ap length c.journal.ensures in
    let full : c.args.budget ≤ length c.choices.book.journal = omega arith in
    goes_spent c.args.budget c.args.net.now c.choices.net c.args.book.now c.choices.book
    c.choices.invariant.way full

pub returns-in_err-make-clause-left : goal.returns-in_err-make-clause-left
returns-in_err-make-clause-left c =
    let same : c.len.result ≡ length c.choices.book.journal =
    c.len.ensures.count ∙ ap length c.journal.ensures in
    let low : length c.choices.book.journal < c.args.budget = omega arith in
    let left : length c.args.book.now.journal < c.args.budget =
    was_left c.args.budget c.args.book.now c.choices.book c.choices.invariant.way.added
    c.choices.invariant.way.book_is low in
    on_err c.from_residual.result left
