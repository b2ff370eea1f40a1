-- The rows of a run on free threads that is closed.
use Rattle.std.specs.Prelude.{List}
use Rattle.shared_net.specs.declared.closing.Closed.{Closed}
use Rattle.shared_net.specs.declared.closing.Closed.TheVariants.{Agreed, Differs}
use Rattle.shared_net.specs.declared.report.Worked.{Worked}

-- those of its report
abbrev pub rows_of : Closed → List Worked
rows_of (Agreed book report) = report.workers
rows_of (Differs report) = report.workers
