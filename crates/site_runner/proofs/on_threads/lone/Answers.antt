-- The whole journal is the schedule of one thread, and the report has a cause.
use Rattle.std.proofs.Common.{refl}
use Rattle.site_runner.proofs.Carried.{has_cause}
use Rattle.site_runner.proofs.on_threads.lone.Goals as goal

pub returns-in-Ok-clause-how : goal.returns-in-Ok-clause-how
returns-in-Ok-clause-how c = (
  refl,
  has_cause c.args.program.now c.args.report c.requires.some c.differs-cause.ensures.cause
      c.requires.started,
  c.in-Ok.ensures.whole,
)
