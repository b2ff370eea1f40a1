-- Where a location dies, those that wait for it are candidates.
use Rattle.std.proofs.Common.{refl, sym}
use Rattle.std.proofs.lemmas.Result.{on_ok_weaker}
use Rattle.book_store.specs.declared.store.Store.{Store}
use Rattle.book_store.proofs.EventLaws.{after_halt, after_no_halter}
use Rattle.book_store.proofs.SentLaws.{more_asking}
use Rattle.book_store.proofs.store.ready_halt.Goals as goal

pub returns-in-Some : goal.returns-in-Some
returns-in-Some c =
    let n = c.args.solution.now in
    let s = c.args.store.now in
    let new : Store = record s { asking = c.call.new.asking } in
    let stored = more_asking n s c.call.new.asking c.call.ensures.kept c.requires.stored in
    record {
      stored = stored;
      older = refl;
      after = on_ok_weaker c.call.result
          (λ called. after_halt n new c.requires.sound c.args.id c.in-Some.atom.now
          (sym c.in-Some.ensures) called stored) c.call.ensures.called;
    }

pub returns-in-None-clause-after : goal.returns-in-None-clause-after
returns-in-None-clause-after c =
    after_no_halter c.args.solution.now c.args.store.now c.requires.sound c.args.id
    (sym c.in-None.ensures)
