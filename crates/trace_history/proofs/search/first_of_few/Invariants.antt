use Rattle.std.proofs.Common.{◌≡◌, drop}
use Rattle.std.specs.Prelude.{None}
use Rattle.std.specs.Option.{option_copied}
use Rattle.trace_history.specs.inside.Search.{first_of, rule_before}
use Rattle.chem_causes.specs.Ready.{is_ready}
use Rattle.book_store.specs.Older.{whole}
use Rattle.trace_history.proofs.search.first_of_few.Given as goal

abbrev pub invariant-loop-rule : goal.invariant-loop-rule
invariant-loop-rule l = first_of (is_ready (whole l.sight.older.now.table l.sight.numbered.now))
    (rule_before l.sight.numbered.now l.sight.from) (option_copied l.first)
    (drop l.rule-index l.rule-items)
    ≡ first_of (is_ready (whole l.sight.older.now.table l.sight.numbered.now))
    (rule_before l.sight.numbered.now l.sight.from) None l.rule-items
