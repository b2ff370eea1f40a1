-- The numbers are those of what is left.
use Rattle.trace_history.proofs.AtomsLaws.{atoms_of_book}
use Rattle.trace_history.proofs.book.Book.atoms.Goals as goal

pub returns : goal.returns
returns c = atoms_of_book c.args.self.now c.in_ok-lefts.lefts c.as_slice.result.now
    c.as_slice.ensures.members c.in_ok-lefts.ensures c.ids_of.result c.ids_of.ensures
