-- All were copied.
use Rattle.book_store.proofs.KeyRange.{all_listed}
use Rattle.book_store.proofs.keys.all_keys.Goals as goal

pub returns : goal.returns
returns c = all_listed c.args.keys.now.keys c.loop-key.list.items c.loop-key.key-iterator
    c.in-None.ensures.steps.0 c.loop-key.invariant
