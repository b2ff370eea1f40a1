-- The rule with the number was looked at, where there is one.
use Rattle.std.proofs.Common.{sym}
use Rattle.std.specs.Option.{option_copied}
use Rattle.book_store.specs.Older.{whole}
use Rattle.trace_history.proofs.Looked.{betters_same, passed_found, passed_absent}
use Rattle.trace_history.proofs.Stands.{rule_in}
use Rattle.trace_history.proofs.search.better_at.Goals as goal

pub better-requires-clause-there : goal.better-requires-clause-there
better-requires-clause-there c =
    rule_in c.args.sight.numbered.now.rules c.args.id c.in-Some.rule.now (sym c.in-Some.ensures)

pub returns-in-Some-clause-passed : goal.returns-in-Some-clause-passed
returns-in-Some-clause-passed c =
    passed_found (whole c.args.sight.older.now.table c.args.sight.numbered.now) c.args.sight.from
    (option_copied c.better.result) c.args.id c.in-Some.rule.now c.in-Some.ensures
    c.better.ensures.passed

pub returns-in-None-clause-better : goal.returns-in-None-clause-better
returns-in-None-clause-better c = betters_same
    (whole c.args.sight.older.now.table c.args.sight.numbered.now) c.args.sight.from
    (option_copied c.args.found)

pub returns-in-None-clause-passed : goal.returns-in-None-clause-passed
returns-in-None-clause-passed c =
    passed_absent (whole c.args.sight.older.now.table c.args.sight.numbered.now) c.args.sight.from
    (option_copied c.args.found) c.args.id c.in-None.ensures
