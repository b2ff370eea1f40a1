use Rattle.std.proofs.Common.{◌∙◌}
use Rattle.book_store.specs.Older.{whole}
use Rattle.trace_history.proofs.CausesLaws.{sorted_has}
use Rattle.trace_history.proofs.all_causes.found_for.Goals as goal

pub returns-clause-ready : goal.returns-clause-ready
returns-clause-ready c = c.has-ready.ensures
    ∙ (sorted_has (whole c.args.older.now.table c.args.numbered.now)
    c.requires.all c.args.sorted.now.waited.keys.keys c.args.sorted.now.ready.keys.keys
    c.requires.sorted c.args.on c.args.count).0

pub returns-clause-waited : goal.returns-clause-waited
returns-clause-waited c = c.has-waited.ensures
    ∙ (sorted_has (whole c.args.older.now.table c.args.numbered.now)
    c.requires.all c.args.sorted.now.waited.keys.keys c.args.sorted.now.ready.keys.keys
    c.requires.sorted c.args.on c.args.count).1
