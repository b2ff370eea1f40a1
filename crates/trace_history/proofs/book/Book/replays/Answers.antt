-- The solution to which the journal leads.
use Rattle.trace_history.proofs.book.Book.replays.Goals as goal

pub returns : goal.returns
returns c = (c.self.invariant.0.left, rw (← c.self.view_is) c.self.invariant.0.replays)
