use Rattle.std.proofs.Common.{inr}
use Rattle.lossy_link.specs.Schedule.{counted}
use Rattle.lossy_link.specs.Whole.{links_of}
use Rattle.lossy_link.proofs.Coming.{one_started, apart_started}
use Rattle.lossy_link.proofs.Counting.{fit}
use Rattle.lossy_link.proofs.Ended.{has_run_from}
use Rattle.lossy_link.proofs.Wanting.{on_err, second_so, begun_settled}
use Rattle.lossy_link.proofs.schedule.over_links.Goals as goal

pub run-ran-requires-clause-bare : goal.run-ran-requires-clause-bare
run-ran-requires-clause-bare c = c.in_ok-parts.ensures.started.wire

pub run-ran-requires-clause-one : goal.run-ran-requires-clause-one
run-ran-requires-clause-one c =
    one_started c.args.book.now c.args.net (links_of c.in_ok-parts.parts) c.requires.one
    c.in_ok-parts.ensures.started c.in_ok-parts.ensures.leads

pub run-ran-requires-clause-apart : goal.run-ran-requires-clause-apart
run-ran-requires-clause-apart c =
    apart_started c.args.net (links_of c.in_ok-parts.parts) c.in_ok-parts.ensures.started

pub returns-in-Ok-clause-run : goal.returns-in-Ok-clause-run
returns-in-Ok-clause-run c =
    let sent = c.whole_count in
    let lost = c.whole_count-in-Ok in
    let repeated = c.whole_count-in-Ok-2 in
    let arrived = c.whole_count-in-Ok-3 in
    let counts = counted sent.result lost.result repeated.result arrived.result in
    has_run_from c.args.budget c.args.loss c.args.net c.args.book.now c.run-ran.new.book
    (links_of c.in_ok-parts.parts) (links_of c.run-ran.new.parts) c.run-ran.new.counts counts
    c.in_ok-parts.ensures.started c.in-Ok.ensures.run c.in-Ok.ensures.whole
    (λ i. counted (sent.ensures.same i) (lost.ensures.same i) (repeated.ensures.same i)
    (arrived.ensures.same i))
    (fit counts sent.ensures.fits lost.ensures.fits repeated.ensures.fits arrived.ensures.fits)

pub returns-in_err-parts-clause-left : goal.returns-in_err-parts-clause-left
returns-in_err-parts-clause-left c =
    on_err c.from_residual.result (inr c.in_err-parts.ensures.left)

pub returns-in-Err-clause-left : goal.returns-in-Err-clause-left
returns-in-Err-clause-left c =
    second_so (λ h none. h (begun_settled c.args.net (links_of c.in_ok-parts.parts)
    c.in_ok-parts.ensures.started none)) c.in-Err.ensures.left
