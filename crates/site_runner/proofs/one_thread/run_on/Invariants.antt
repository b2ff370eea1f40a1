use Rattle.std.proofs.Common.{◌≡◌, ◌<◌, length}
use Rattle.trace_history.specs.Book.{IsStuck}
use Rattle.site_runner.proofs.Going.{Goes}
use Rattle.site_runner.proofs.one_thread.run_on.Given as goal

abbrev pub invariant-loop-place : goal.invariant-loop-place
invariant-loop-place l =
    Goes l.fn.book l.budget l.book l.from × (l.from < length l.fn.book.program.sites)
    × (length l.book.journal ≡ l._place) × (IsStuck l.fn.book → IsStuck l.book)
