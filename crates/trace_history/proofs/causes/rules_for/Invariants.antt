use Rattle.std.proofs.Common.{◌≡◌, drop, ◌||◌}
use Rattle.std.specs.List.{list_any}
use Rattle.chem_causes.specs.Cause.{has_pattern}
use Rattle.chem_causes.specs.Ready.{takes_up}
use Rattle.book_store.specs.Older.{whole}
use Rattle.trace_history.proofs.causes.rules_for.Given as goal

abbrev pub invariant-loop-rule : goal.invariant-loop-rule
invariant-loop-rule l =
    (list_any (takes_up (whole l.older.table l.numbered) l.on l.count)
    (drop l.rule-index l.rule-items)
    ≡ list_any (takes_up (whole l.older.table l.numbered) l.on l.count) l.rule-items)
    × ((l.waited || has_pattern (drop l.rule-index l.rule-items) l.on l.count)
    ≡ has_pattern l.rule-items l.on l.count)
