-- The message with the number, where it is received.
use Rattle.book_store.proofs.Queued.{found_passes, found_fails}
use Rattle.book_store.proofs.older.found_at.Goals as goal

pub returns-then-meets : goal.returns-then-meets
returns-then-meets c = found_passes c.args.at c.args.pat.now c.in-Some.atom.now _
    c.meets.result c.in-Some.ensures c.meets.ensures c.if-meets.true

pub returns-else-meets : goal.returns-else-meets
returns-else-meets c = found_fails c.args.at c.args.pat.now c.in-Some.atom.now _
    c.meets.result c.in-Some.ensures c.meets.ensures c.if-meets.false
