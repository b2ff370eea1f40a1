-- Messages and requests by number: all that an event reads of them. In what order they stand tells
-- nothing.
use Rattle.std.specs.Prelude.{◌≡◌, List}
use Rattle.chem_model.specs.declared.event.AtomId.{AtomId}
use Rattle.chem_model.specs.declared.numbered.NumberedAtom.{NumberedAtom}
use Rattle.chem_model.specs.Apply.{atom_at}

-- two lists in which each number finds the same
abbrev pub AreAlike : List NumberedAtom → List NumberedAtom → Type 0
AreAlike xs ys = (i : AtomId) → atom_at xs i ≡ atom_at ys i
