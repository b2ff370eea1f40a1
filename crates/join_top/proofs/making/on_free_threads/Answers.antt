-- The run on free threads, from the beginning.
use Rattle.join_top.proofs.Made.{free_made}
use Rattle.join_top.proofs.making.on_free_threads.Goals as goal

pub returns : goal.returns
returns g c = free_made c.args.program.now c.args.asked.now.workers c.args.asked.now.budget
    c.args.asked.now.loss c.free-done.result
    c.free-done.ensures.run c.free-done.ensures.how
