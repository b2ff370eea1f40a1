-- The receipts agree with the beginning of the journal that is finished.
use Rattle.std.proofs.Common.{◌≡◌, Option, length, ap, subst, ◌∙◌}
use Rattle.trace_history.specs.Kept.{BookKept}
use Rattle.shared_net.specs.declared.differs.Differs.{Differs}
use Rattle.shared_net.specs.Reports.{Reported}
use Rattle.site_runner.specs.Run.{RunsOn}
use Rattle.site_runner.proofs.Carried.{are_first, goes_on_alone}
use Rattle.site_runner.proofs.on_threads.shared.Goals as goal

pub returns-in-Ok-clause-run : goal.returns-in-Ok-clause-run
returns-in-Ok-clause-run c =
    let run = subst (λ (b : BookKept). RunsOn b c.args.budget c.in-Ok.book)
    c.expect_searches.ensures c.in-Ok.ensures.run in
    record { program = run.program; within = run.within; ends = run.ends }

pub returns-in-Ok-clause-how : goal.returns-in-Ok-clause-how
returns-in-Ok-clause-how c =
    let report : Reported = c.args.report in
    let run = subst (λ (b : BookKept). RunsOn b c.args.budget c.in-Ok.book)
    c.expect_searches.ensures c.in-Ok.ensures.run in
    let many : c.len-events.result ≡ length c.args.book.journal =
    c.len-events.ensures.count ∙ ap length c.journal.ensures in (
      ap (λ (d : Option Differs). record { workers = report.workers; differs = d }) c.requires.none,
      are_first c.args.book.program c.args.budget report.workers c.args.book c.in-Ok.book.journal
          c.len-events.result run.added c.requires.agreed many run.journal,
      goes_on_alone c.args.book c.in-Ok.book c.args.budget c.len-events.result many run,
    )
