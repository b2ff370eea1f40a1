-- It is looked for among the older messages first.
use Rattle.std.specs.Option.{option_copied}
use Rattle.book_store.proofs.Joined.{found_first, found_second}
use Rattle.book_store.proofs.possible.atom_of.Goals as goal

pub returns-in-Some : goal.returns-in-Some
returns-in-Some c = found_first c.args.older.now.table c.args.numbered.now.atoms c.args.id
    c.in-Some.atom.now c.in-Some.ensures

pub returns-in-None : goal.returns-in-None
returns-in-None c = found_second c.args.older.now.table c.args.numbered.now.atoms c.args.id
    (option_copied c.atom_at.result) c.in-None.ensures c.atom_at.ensures
