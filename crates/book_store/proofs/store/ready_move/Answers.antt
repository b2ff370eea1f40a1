-- The location's candidates were sent, or the move isn't possible.
use Rattle.std.proofs.Common.{sym, subst}
use Rattle.std.proofs.lemmas.Result.{on_ok_weaker}
use Rattle.chem_model.specs.Sound.{IsSound}
use Rattle.book_store.specs.declared.older.Older.{Older}
use Rattle.book_store.specs.Older.{whole}
use Rattle.book_store.proofs.EventLaws.{after_move, after_no_goal, after_no_mover}
use Rattle.book_store.proofs.store.ready_move.Goals as goal

pub returns-in-Some-goal : goal.returns-in-Some-goal
returns-in-Some-goal c =
    let n = c.args.solution.now in
    let new = c.send.new.store in
    let sound : IsSound (whole new.older.table n) =
    subst (λ (o : Older). IsSound (whole o.table n)) (sym c.send.ensures.older) c.requires.sound in
    record {
      stored = c.send.ensures.stored;
      older = c.send.ensures.older;
      after = on_ok_weaker c.send.result
          (λ sent. after_move n new sound c.args.id c.in-Some.atom.now c.in-Some-goal.to
          (sym c.in-Some.ensures) (sym c.in-Some-goal.ensures) sent c.send.ensures.stored)
          c.send.ensures.sent;
    }

pub returns-in-None-goal-clause-after : goal.returns-in-None-goal-clause-after
returns-in-None-goal-clause-after c =
    after_no_goal c.args.solution.now c.args.store.now c.requires.sound c.args.id
    c.in-Some.atom.now (sym c.in-Some.ensures) (sym c.in-None-goal.ensures)

pub returns-in-None-clause-after : goal.returns-in-None-clause-after
returns-in-None-clause-after c =
    after_no_mover c.args.solution.now c.args.store.now c.requires.sound c.args.id
    (sym c.in-None.ensures)
