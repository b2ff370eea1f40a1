-- What contracts see of a report.
use Rattle.std.specs.Prelude.{List, Option, refl}
use Rattle.std.specs.Coded.{Coded, code_by, coded×, coded_list, coded_option}
use Rattle.shared_net.specs.declared.report.Worked.{Worked}
use Rattle.shared_net.specs.declared.differs.Differs.{Differs}
use Rattle.shared_net.specs.contracts.report.Worked as worked
use Rattle.shared_net.specs.contracts.differs.Differs as differs

pub record Reported : Type 0 where
  pub workers : List Worked
  pub differs : Option Differs

abbrev pub reported_code : Coded Reported
reported_code =
    code_by (List Worked × Option Differs)
    (coded× (coded_list worked.the_row.coded) (coded_option differs.the_row.coded))
    (λ r. (r.workers, r.differs)) (λ t. record { workers = t.0; differs = t.1 }) (λ _. refl)
