-- All members were looked at.
use Rattle.std.specs.Option.{option_copied}
use Rattle.chem_causes.specs.Ready.{is_ready}
use Rattle.trace_history.specs.inside.Search.{rule_before}
use Rattle.book_store.specs.Older.{whole}
use Rattle.trace_history.proofs.FirstOf.{finds_at_end}
use Rattle.trace_history.proofs.Founds.{rules_order}
use Rattle.trace_history.proofs.search.first_of_few.Goals as goal

pub returns : goal.returns
returns c = finds_at_end (is_ready (whole c.args.sight.older.now.table c.args.sight.numbered.now))
    (rule_before c.args.sight.numbered.now c.args.sight.from)
    (rules_order c.args.sight.numbered.now c.args.sight.from)
    c.args.sight.numbered.now.rules c.as_slice-rule-items.result.now c.loop-rule.rule-index
    (option_copied c.loop-rule.first)
    c.as_slice-rule-items.ensures.members c.loop-rule-test.false c.loop-rule.invariant
