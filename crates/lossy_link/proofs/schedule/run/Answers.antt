-- Between two choices the links settle; the run ends with the budget, or where no choice is next.
use Rattle.std.proofs.Common.{◌≡◌, ◌<◌, ◌≤◌, ◌∙◌, ap, arith, length, inl, inr}
use Rattle.lossy_link.specs.Whole.{links_of}
use Rattle.lossy_link.proofs.Coming.{has_begun, has_settled, has_made, has_spent, has_rested}
use Rattle.lossy_link.proofs.Coming.{next_over, length_made}
use Rattle.lossy_link.proofs.Wanting.{on_err, grown, wanted}
use Rattle.lossy_link.proofs.schedule.run.Goals as goal

pub choices-init : goal.choices-init
choices-init c = record {
  come = has_begun c.args.budget c.args.kind (links_of c.args.parts.now) c.args.book.now
      c.args.counts.now c.requires.kind c.requires.bare c.requires.one c.requires.apart
      c.requires.within;
  whole = c.requires.whole;
  past = inr (λ s. s);
}

pub make_next-requires-clause-allowed : goal.make_next-requires-clause-allowed
make_next-requires-clause-allowed c =
    let come = has_settled c.args.budget c.args.kind (links_of c.args.parts.now) c.args.book.now
    c.args.counts.now c.choices.kind (links_of c.choices.parts) c.choices.book c.choices.counts
    c.choices.invariant.come c.in_ok-kind.kind (links_of c.settle.new.parts) c.settle.new.counts
    c.in_ok-kind.ensures.settles in
    next_over c.choices.book (links_of c.settle.new.parts) c.in-Some.choice come.one
    c.in_ok-kind.ensures.whole c.in_ok-kind.ensures.settled come.apart
    (rw c.in-Some.is at c.next.ensures.some)

pub make_next-requires-clause-one : goal.make_next-requires-clause-one
make_next-requires-clause-one c =
    let come = has_settled c.args.budget c.args.kind (links_of c.args.parts.now) c.args.book.now
    c.args.counts.now c.choices.kind (links_of c.choices.parts) c.choices.book c.choices.counts
    c.choices.invariant.come c.in_ok-kind.kind (links_of c.settle.new.parts) c.settle.new.counts
    c.in_ok-kind.ensures.settles in
    come.one

pub returns-then-len-budget-clause-run : goal.returns-then-len-budget-clause-run
returns-then-len-budget-clause-run c =
    let come = has_settled c.args.budget c.args.kind (links_of c.args.parts.now) c.args.book.now
    c.args.counts.now c.choices.kind (links_of c.choices.parts) c.choices.book c.choices.counts
    c.choices.invariant.come c.in_ok-kind.kind (links_of c.settle.new.parts) c.settle.new.counts
    c.in_ok-kind.ensures.settles in
    let same : c.len.result ≡ length c.choices.book.journal =
    c.len.ensures.count ∙ ap length c.journal.ensures in
    let spent : c.args.budget ≤ length c.choices.book.journal = omega arith in
    has_spent c.args.budget c.args.kind (links_of c.args.parts.now) c.args.book.now
    c.args.counts.now c.in_ok-kind.kind (links_of c.settle.new.parts) c.choices.book
    c.settle.new.counts come c.in_ok-kind.ensures.settled spent

pub returns-in_default-clause-run : goal.returns-in_default-clause-run
returns-in_default-clause-run c =
    let come = has_settled c.args.budget c.args.kind (links_of c.args.parts.now) c.args.book.now
    c.args.counts.now c.choices.kind (links_of c.choices.parts) c.choices.book c.choices.counts
    c.choices.invariant.come c.in_ok-kind.kind (links_of c.settle.new.parts) c.settle.new.counts
    c.in_ok-kind.ensures.settles in
    let same : c.len.result ≡ length c.choices.book.journal =
    c.len.ensures.count ∙ ap length c.journal.ensures in
    let few : length c.choices.book.journal < c.args.budget = omega arith in
    has_rested c.args.budget c.args.kind (links_of c.args.parts.now) c.args.book.now
    c.args.counts.now c.in_ok-kind.kind (links_of c.settle.new.parts) c.choices.book
    c.settle.new.counts come c.in_ok-kind.ensures.settled few
    (rw c.in_default.is at c.next.ensures.none)

pub choices-preserved : goal.choices-preserved
choices-preserved c =
    let come = has_settled c.args.budget c.args.kind (links_of c.args.parts.now) c.args.book.now
    c.args.counts.now c.choices.kind (links_of c.choices.parts) c.choices.book c.choices.counts
    c.choices.invariant.come c.in_ok-kind.kind (links_of c.settle.new.parts) c.settle.new.counts
    c.in_ok-kind.ensures.settles in
    let same : c.len.result ≡ length c.choices.book.journal =
    c.len.ensures.count ∙ ap length c.journal.ensures in
    let few : length c.choices.book.journal < c.args.budget = omega arith in
    record {
      come = has_made c.args.budget c.args.kind (links_of c.args.parts.now) c.args.book.now
          c.args.counts.now c.in_ok-kind.kind (links_of c.settle.new.parts) c.choices.book
          c.settle.new.counts come (links_of c.make_next.new.parts) c.in-Some.choice
          c.make_next.new.book c.in_ok-kind.ensures.settled few
          (rw c.in-Some.is at c.next.ensures.some) c.in_ok-make_next.ensures.makes;
      whole = c.in_ok-make_next.ensures.whole;
      past = inl (omega (
        arith,
        grown c.args.book.now.journal come.made c.choices.book.journal come.journal,
        length_made c.choices.book.journal c.make_next.new.book.journal
            c.in_ok-make_next.ensures.makes.event c.in_ok-make_next.ensures.makes.journal,
      ));
    }

pub returns-in_err-kind-clause-left : goal.returns-in_err-kind-clause-left
returns-in_err-kind-clause-left c =
    on_err c.from_residual.result (wanted c.args.budget c.args.book.now.journal
    c.choices.book.journal c.choices.invariant.come.within c.choices.invariant.past
    c.in_err-kind.ensures.left)

pub returns-in_err-make_next-clause-left : goal.returns-in_err-make_next-clause-left
returns-in_err-make_next-clause-left c =
    let come = c.choices.invariant.come in
    let same : c.len.result ≡ length c.choices.book.journal =
    c.len.ensures.count ∙ ap length c.journal.ensures in
    let few : length c.choices.book.journal < c.args.budget = omega arith in
    let grows = grown c.args.book.now.journal come.made c.choices.book.journal come.journal in
    on_err c.from_residual-in_err-make_next.result (inl (omega arith))

pub choices-smaller : goal.choices-smaller
choices-smaller c =
    let same : c.len.result ≡ length c.choices.book.journal =
    c.len.ensures.count ∙ ap length c.journal.ensures in
    let few : length c.choices.book.journal < c.args.budget = omega arith in
    let long = length_made c.choices.book.journal c.make_next.new.book.journal
    c.in_ok-make_next.ensures.makes.event c.in_ok-make_next.ensures.makes.journal in
    omega arith
