use Rattle.std.proofs.Common.{◌++◌, sym}
use Rattle.book_store.proofs.ByNumber.{found_in}
use Rattle.trace_history.proofs.causes.left_at.Goals as goal

pub left_of-requires-clause-there : goal.left_of-requires-clause-there
left_of-requires-clause-there c = found_in (c.args.older.now.table ++ c.args.numbered.now.atoms)
    c.args.id c.in-Some.atom.now (sym c.in-Some.ensures)
