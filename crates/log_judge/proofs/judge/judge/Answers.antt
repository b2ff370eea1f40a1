-- The parts make one of the ends.
use Rattle.std.proofs.Common.{refl}
use Rattle.log_judge.proofs.Ending.{of_log, of_stop}
use Rattle.trace_text.specs.ReadLog.{parts}
use Rattle.log_judge.proofs.judge.judge.Goals as goal

pub returns-in-Ok : goal.returns-in-Ok
returns-in-Ok g c = of_log c.args.ask _ _ _ _ _ _ _ _ _ _ c.in-Ok.ensures.all (parts c.in-Ok.log)
    c.in-Ok.ensures.log c.told_of-told.result c.told_of-told.ensures.told
    c.told_of-told.ensures.refusal c.tell_log.ensures

pub returns-in-Err : goal.returns-in-Err
returns-in-Err g c =
    of_stop c.args.ask _ _ _ _ _ _ _ g.S.Source.left g.S.Source.faults c.args.source.now
    c.log_of.new.source c.in-Err.stop c.in-Err.ensures.stop refl c.tell_stop.ensures
