-- One after another goes to the older ones.
use Rattle.book_store.proofs.StoreLaws.{sound_moved}
use Rattle.book_store.proofs.store.settle.Goals as goal

pub settle_one-requires-clause-sound : goal.settle_one-requires-clause-sound
settle_one-requires-clause-sound c = sound_moved c.args.solution.now c.loop-left.solution
    c.args.store.now c.loop-left.store c.loop-left.invariant.1 c.requires.sound
