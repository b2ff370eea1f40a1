use Rattle.std.proofs.Common.{◌≡◌}
use Rattle.book_store.specs.Walk.{walk}
use Rattle.trace_history.specs.inside.Chosen.{rule_for}
use Rattle.book_store.specs.Older.{whole}
use Rattle.trace_history.proofs.search.walk_rules.Given as goal

abbrev pub invariant-loop-key : goal.invariant-loop-key
invariant-loop-key l = walk (rule_for (whole l.older.table l.numbered)) l.key-iterator
    ≡ walk (rule_for (whole l.older.table l.numbered)) l.fn.keys
