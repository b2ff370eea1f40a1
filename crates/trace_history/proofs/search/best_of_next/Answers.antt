-- Those of the last channel were looked at; where there is none, none is filed there.
use Rattle.std.specs.Option.{option_copied}
use Rattle.std.proofs.Common.{sym, ◌∙◌, subst}
use Rattle.book_store.specs.Older.{whole}
use Rattle.trace_history.specs.inside.Looked.{AreFiledPassed}
use Rattle.trace_history.proofs.Looked.{betters_same}
use Rattle.trace_history.proofs.search.best_of_next.Goals as goal

pub returns-then-is_same-clause-better : goal.returns-then-is_same-clause-better
returns-then-is_same-clause-better c =
    betters_same (whole c.args.sight.older.now.table c.args.sight.numbered.now) c.args.sight.from
    (option_copied c.args.found)

pub returns-then-is_same-clause-passed : goal.returns-then-is_same-clause-passed
returns-then-is_same-clause-passed c =
    subst (λ o. AreFiledPassed (whole c.args.sight.older.now.table c.args.sight.numbered.now)
    c.args.sight.from c.args.waiting.now o (option_copied c.args.found))
    (c.is_same.ensures c.if-is_same.true ∙ sym c.in-Some.is) c.requires.last

pub returns-in-None-clause-better : goal.returns-in-None-clause-better
returns-in-None-clause-better c =
    betters_same (whole c.args.sight.older.now.table c.args.sight.numbered.now) c.args.sight.from
    (option_copied c.args.found)
