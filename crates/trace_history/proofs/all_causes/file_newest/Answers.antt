use Rattle.book_store.specs.Older.{whole}
use Rattle.trace_history.proofs.CausesLaws.{there_newest, newest_more}
use Rattle.trace_history.proofs.all_causes.file_newest.Goals as goal

pub left_by-left-requires-clause-there : goal.left_by-left-requires-clause-there
left_by-left-requires-clause-there c = there_newest c.args.older.now.table
    c.as_slice-atom-items.result.now c.args.numbered.now.atoms c.loop-atom.atom-index
    c.atom-item.result c.as_slice-atom-items.ensures.members c.loop-atom-test.true c.atom-item.is

pub loop-atom-preserved : goal.loop-atom-preserved
loop-atom-preserved c =
    newest_more (whole c.args.older.now.table c.args.numbered.now) c.args.older.now.table
    c.as_slice-atom-items.result.now c.loop-atom.atom-index c.atom-item.result c.left_by-left.result
    c.loop-atom.lefts c.insert.new.self c.loop-atom-test.true c.atom-item.is c.loop-atom.invariant
    c.left_by-left.ensures c.in_ok-insert.ensures
