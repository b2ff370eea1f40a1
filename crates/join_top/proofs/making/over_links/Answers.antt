-- The run over links, from the beginning.
use Rattle.join_top.proofs.Made.{links_made}
use Rattle.join_top.proofs.making.over_links.Goals as goal

pub returns : goal.returns
returns c = links_made c.args.program.now c.args.asked.now.workers c.args.asked.now.budget
    c.args.asked.now.loss c.in_ok-net.net c.in_ok-net.ensures.opened c.in_ok-net.ensures.froms
    c.in_ok-net.ensures.code c.in_ok-net.book c.in_ok-book.book c.in_ok-book.counts
    c.in_ok-net.ensures.book c.in_ok-net.ensures.linked c.in_ok-book.ensures.run
    c.in_ok-book.ensures.whole
