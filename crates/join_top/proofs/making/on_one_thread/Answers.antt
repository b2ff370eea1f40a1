-- The run on one thread, of the program's book.
use Rattle.join_top.proofs.Made.{alone_made}
use Rattle.join_top.proofs.making.on_one_thread.Goals as goal

pub returns : goal.returns
returns c = alone_made c.args.program.now c.args.asked.now.workers c.args.asked.now.budget
    c.args.asked.now.loss c.in_ok-book.book c.alone.result c.in_ok-book.ensures.opening
    c.alone.ensures.run c.alone.ensures.whole c.alone.ensures.how
