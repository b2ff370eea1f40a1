-- What contracts see of a table of messages: a list in which each number stands once.
use Rattle.std.specs.Prelude.{◌≡◌, ℕ, ◌+◌, List, Some, cond}
use Rattle.chem_model.specs.Bag.{one, bag}
use Rattle.chem_model.specs.NewNames.{coded_pair}
use Rattle.chem_model.specs.Numbered.{atom_pairs}
use Rattle.chem_model.specs.declared.event.AtomId.{AtomId}
use Rattle.chem_model.specs.declared.numbered.NumberedAtom.{NumberedAtom}
use Rattle.chem_model.specs.Apply.{same_atom, atom_at}
use Rattle.chem_model.specs.Each.{Each}

-- each entry stands under its own number
abbrev pub IsKeyed : (ℕ × ℕ) × NumberedAtom → Type 0
IsKeyed e = (e.0.0 ≡ e.1.id.site) × (e.0.1 ≡ e.1.id.k)

abbrev pub AreKeyed : List ((ℕ × ℕ) × NumberedAtom) → Type 0
AreKeyed = Each IsKeyed

-- one more stands there
pub record Adds (a : NumberedAtom) (old new : List NumberedAtom) : Type 0 where
  pub finds : (i : AtomId) → atom_at new i ≡ cond (same_atom a.id i) (Some a) (atom_at old i)
  pub pairs : (p : ℕ × ℕ) → bag coded_pair (atom_pairs new) p
      ≡ one coded_pair (a.id.site, a.id.k) p + bag coded_pair (atom_pairs old) p
