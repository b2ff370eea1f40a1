-- Where the location falls, those that wait for it were called.
use Rattle.std.proofs.Common.{refl}
use Rattle.std.proofs.lemmas.Result.{on_ok_weaker}
use Rattle.book_store.proofs.SentLaws.{more_asking}
use Rattle.book_store.proofs.store.call_fallen.Goals as goal

pub returns-then-falls : goal.returns-then-falls
returns-then-falls c = record {
  stored = more_asking c.args.solution.now c.args.store.now c.call.new.asking c.call.ensures.kept
      c.requires.stored;
  older = refl;
  called = on_ok_weaker c.call.result (λ called falling. called) c.call.ensures.called;
}
