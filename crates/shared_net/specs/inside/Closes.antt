-- What the comparison of all receipts with the journal settles.
use Rattle.std.specs.Prelude.{◌≡◌, List, Some}
use Rattle.trace_history.specs.Kept.{BookKept}
use Rattle.shared_net.specs.declared.report.Worked.{Worked}
use Rattle.shared_net.specs.declared.differs.Differs.{Differs as Cause}
use Rattle.shared_net.specs.declared.closing.Closed.{Closed}
use Rattle.shared_net.specs.declared.closing.Closed.TheVariants.{Agreed, Differs}
use Rattle.shared_net.specs.Agrees.{all_receipts, Agrees}
use Rattle.shared_net.specs.Causes.{Compares}

-- which of the two comes, said of the book behind the lock: that very book where the receipts
-- agree with it, and else a cause that is true
abbrev pub Settles : BookKept → List Worked → Closed → Type 0
Settles kept rows (Agreed book report) =
    (book ≡ kept) × Agrees kept.journal (all_receipts rows)
Settles kept rows (Differs report) =
    (cause : Cause) × (report.differs ≡ Some cause) × Compares kept.journal rows (Some cause)
