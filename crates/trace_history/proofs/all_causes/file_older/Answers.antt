use Rattle.std.proofs.Common.{◌++◌, [], ◌∷◌}
use Rattle.book_store.specs.Older.{whole}
use Rattle.trace_history.proofs.CausesLaws.{there_older, done_more, covers_more}
use Rattle.trace_history.proofs.all_causes.file_older.Goals as goal

pub left_by-left-requires-clause-there : goal.left_by-left-requires-clause-there
left_by-left-requires-clause-there c = there_older c.loop-atom.invariant.0 c.loop-atom.atom-iterator
    c.next.new.self c.args.older.now.table c.args.numbered.now.atoms c.in-Some.atom.now
    c.loop-atom.invariant.1 c.in-Some.ensures.steps

pub loop-atom-preserved : goal.loop-atom-preserved
loop-atom-preserved c =
    let done = c.loop-atom.invariant.0 in
    let a = c.in-Some.atom.now in (
      done ++ a ∷ [],
      done_more done c.loop-atom.atom-iterator c.next.new.self c.args.older.now.table a
          c.loop-atom.invariant.1 c.in-Some.ensures.steps,
      covers_more (whole c.args.older.now.table c.args.numbered.now) done a
          c.left_by-left.result c.loop-atom.lefts c.insert.new.self c.loop-atom.invariant.2
          c.left_by-left.ensures c.in_ok-insert.ensures,
    )
