use Rattle.book_store.proofs.Bare.{chosen_next}
use Rattle.book_store.proofs.waiting.bare_channel.Goals as goal

pub loop-pat-preserved : goal.loop-pat-preserved
loop-pat-preserved c = chosen_next c.args.but c.args.older.now.keys.keys
    c.as_slice-pat-items.result.now c.loop-pat.pat-index c.pat-item.result c.loop-pat.found
    c.chosen-found.result c.loop-pat-test.true c.pat-item.is c.chosen-found.ensures
    c.loop-pat.invariant
