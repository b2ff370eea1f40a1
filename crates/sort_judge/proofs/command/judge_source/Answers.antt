-- The parts make one of the ends.
use Rattle.std.proofs.Common.{refl}
use Rattle.sort_judge.proofs.Ending.{of_text, of_end, unread_of}
use Rattle.sort_judge.proofs.command.judge_source.Goals as goal

pub returns-in-Ok : goal.returns-in-Ok
returns-in-Ok g c = of_text _ _ _ _ _ _ _ _ _ _
    c.in-Ok.text c.in-Ok.ensures.all c.in-Ok.ensures.end c.in-Ok.ensures.short c.told_of-told.result
    c.told_of-told.ensures.told c.told_of-told.ensures.refusal c.tell_text.ensures

pub returns-in-Err : goal.returns-in-Err
returns-in-Err g c =
    let left = g.S.Source.left in
    let faults = g.S.Source.faults in
    let e = c.in-Err.ensures in
    of_end _ _ _ _ _ _ _ left faults
    c.args.source.now c.read_all.new.source c.in-Err.end (unread_of left faults
    c.args.source.now c.read_all.new.source c.in-Err.end e.too_long e.read_fault e.memory e.cause)
    (refl {a = c.args.out.now}) c.tell_end.ensures
