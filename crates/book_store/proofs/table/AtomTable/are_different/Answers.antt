use Rattle.std.proofs.Common.{subst, List}
use Rattle.chem_model.specs.declared.numbered.NumberedAtom.{NumberedAtom}
use Rattle.chem_commit.specs.inside.Differ.{AtomsDiffer}
use Rattle.book_store.proofs.DifferLaws.{different}
use Rattle.book_store.proofs.table.AtomTable.are_different.Goals as goal

pub returns : goal.returns
returns c = subst (λ (l : List NumberedAtom). AtomsDiffer l) c.self.view_is
    (different c.self.inside.map.entries c.len-count.ensures.ordered c.self.invariant)
