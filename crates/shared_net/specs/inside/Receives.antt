-- What a commit behind the lock does to a pass.
use Rattle.std.specs.Prelude.{◌≡◌, ℕ}
use Rattle.chem_model.specs.declared.event.Event.{Event}
use Rattle.trace_history.specs.declared.book.Commit.{Commit}
use Rattle.trace_history.specs.declared.book.Commit.TheVariants.{Place, NotEnabled}
use Rattle.shared_net.specs.Passes.{PassKept}
use Rattle.shared_net.specs.Proposes.{with_receipt}

-- the pass has the receipt of an event that was made at this place, and else it is as before
abbrev pub Receives : PassKept → ℕ → Event → Commit → PassKept → Type 0
Receives old place e (Place k) new = new ≡ with_receipt old place e
Receives old place e NotEnabled new = new ≡ old
