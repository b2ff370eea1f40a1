-- The whole journal is the schedule of one thread.
use Rattle.std.proofs.Common.{ap}
use Rattle.trace_history.specs.Kept.{BookKept}
use Rattle.site_runner.proofs.Carried.{is_finished, is_scheduled}
use Rattle.site_runner.proofs.on_threads.from_start.Goals as goal

pub returns-clause-run : goal.returns-clause-run
returns-clause-run c =
    let same = ap (λ (b : BookKept). b.program) c.in_ok-book.ensures.opening in
    is_finished c.args.program.now c.args.budget c.in_ok-book.book same
    c.finish.result c.finish.ensures.run

pub returns-clause-whole : goal.returns-clause-whole
returns-clause-whole c =
    let same = ap (λ (b : BookKept). b.program) c.in_ok-book.ensures.opening in
    let none = ap (λ (b : BookKept). b.journal) c.in_ok-book.ensures.opening in
    is_scheduled c.args.program.now c.args.budget c.in_ok-book.book same none
    c.finish.result c.finish.ensures.whole
