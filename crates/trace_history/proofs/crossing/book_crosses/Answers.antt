-- Each part may go to another thread.
use Rattle.trace_history.proofs.Sending.{book_send}
use Rattle.trace_history.proofs.crossing.book_crosses.Goals as goal

pub returns : goal.returns
returns c = book_send c.program_crosses.ensures c.journal_crosses.ensures c.numbered_crosses.ensures
    c.guesses_cross.ensures c.store_crosses.ensures
