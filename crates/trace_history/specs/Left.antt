-- What is left, each with its cause.
use Rattle.std.specs.Prelude.{◌≡◌, List, [], ◌∷◌, Option, Some, None, is_some, true}
use Rattle.chem_model.specs.declared.event.AtomId.{AtomId}
use Rattle.chem_model.specs.declared.numbered.NumberedAtom.{NumberedAtom}
use Rattle.chem_model.specs.declared.numbered.Numbered.{Numbered}
use Rattle.chem_model.specs.Each.{Each, IsIn}
use Rattle.chem_model.specs.Apply.{atom_at}
use Rattle.chem_causes.specs.declared.cause.Left.{Left}
use Rattle.chem_causes.specs.Cause.{IsCause}
use Rattle.chem_causes.specs.Lefts.{left_at, is_before, IsRising}

-- it tells of this atom where it stands, and its cause
pub record IsLeft (n : Numbered) (a : NumberedAtom) (left : Left) : Type 0 where
  pub atom : left.atom ≡ a.id
  pub loc : left.loc ≡ a.loc
  pub cause : IsCause n a left.cause

-- it tells of the atom with this number; none where there is no such atom
abbrev pub IsLeftAt : Numbered → AtomId → Option Left → Type 0
IsLeftAt n i None = atom_at n.atoms i ≡ None
IsLeftAt n i (Some left) = (a : NumberedAtom) × (atom_at n.atoms i ≡ Some a) × IsLeft n a left

-- these are the atoms of the solution, each with its cause, by rising number
pub record AreLeft (n : Numbered) (lefts : List Left) : Type 0 where
  pub rising : IsRising lefts
  pub all : (i : AtomId) → IsLeftAt n i (left_at lefts i)

-- each number comes before all behind it
abbrev pub AreRising : List AtomId → Type 0
AreRising [] = Unit {0}
AreRising (i ∷ ids) = Each (λ (j : AtomId). is_before i j ≡ true) ids × AreRising ids

-- these are the numbers of the atoms of the solution, by rising number
pub record AreAtomsOf (n : Numbered) (ids : List AtomId) : Type 0 where
  pub rising : AreRising ids
  pub only : (i : AtomId) → IsIn i ids → is_some (atom_at n.atoms i) ≡ true
  pub every : (i : AtomId) → is_some (atom_at n.atoms i) ≡ true → IsIn i ids
