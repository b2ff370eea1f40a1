-- What was sound stays so, step by step.
use Rattle.book_store.specs.Older.{takes}
use Rattle.book_store.proofs.SoundLaws.{sound_rest}
use Rattle.book_store.proofs.StoreLaws.{sound_moved, gone_still}
use Rattle.book_store.proofs.store.ready.Goals as goal

pub bring-requires-clause-sound : goal.bring-requires-clause-sound
bring-requires-clause-sound c = sound_moved c.args.solution.now c.settle_all.new.solution
    c.args.store.now c.settle_all.new.store c.in_ok-settle_all.ensures.moves c.requires.sound

pub ready_for-requires-clause-sound : goal.ready_for-requires-clause-sound
ready_for-requires-clause-sound c = sound_moved c.settle_all.new.solution c.bring.new.solution
    c.settle_all.new.store c.bring.new.store c.in_ok-bring.ensures.moves
    (sound_moved c.args.solution.now c.settle_all.new.solution c.args.store.now
    c.settle_all.new.store
    c.in_ok-settle_all.ensures.moves c.requires.sound)

pub ready_for-requires-clause-base : goal.ready_for-requires-clause-base
ready_for-requires-clause-base c =
    sound_rest c.bring.new.store.older.table c.bring.new.solution
    (sound_moved c.settle_all.new.solution c.bring.new.solution c.settle_all.new.store
    c.bring.new.store
    c.in_ok-bring.ensures.moves
    (sound_moved c.args.solution.now c.settle_all.new.solution c.args.store.now
    c.settle_all.new.store
    c.in_ok-settle_all.ensures.moves c.requires.sound))

pub returns-clause-gone : goal.returns-clause-gone
returns-clause-gone c = gone_still c.bring.new.store c.ready_for.new.store
    (takes c.args.event.now) c.ready_for.result c.ready_for.ensures.older c.in_ok-bring.ensures.gone
