-- What a book has in place of the solution to which its journal leads.
use Rattle.std.specs.Prelude.{◌≡◌, List, ◌++◌, Option, Some}
use Rattle.chem_model.specs.declared.numbered.NumberedAtom.{NumberedAtom}
use Rattle.chem_model.specs.declared.numbered.Numbered.{Numbered}
use Rattle.chem_commit.specs.inside.Differ.{AtomsDiffer}
use Rattle.book_store.specs.Alike.{AreAlike}
use Rattle.book_store.specs.Older.{whole}

-- what a journal leads to is what stands here, the older messages and the newest, but for the order
-- of these
pub record Holds (o : Option Numbered) (old : List NumberedAtom) (n : Numbered) : Type 0 where
  pub left : Numbered
  pub replays : o ≡ Some left
  pub rest : record left { atoms = old ++ n.atoms } ≡ whole old n
  pub alike : AreAlike left.atoms (old ++ n.atoms)
  pub differ : AtomsDiffer (old ++ n.atoms)
