-- That the locations of a list differ, its rules, and its messages and requests, so that each is
-- found wherever it stands.
use Rattle.std.specs.Prelude.{◌≡◌, ℕ, ◌<◌, ◌≤◌, List, Some, true, length, get_or}
use Rattle.chem_model.specs.declared.numbered.Placed.{Placed}
use Rattle.chem_model.specs.declared.numbered.NumberedRule.{NumberedRule}
use Rattle.chem_model.specs.declared.event.AtomId.{AtomId}
use Rattle.chem_model.specs.declared.numbered.NumberedAtom.{NumberedAtom}
use Rattle.chem_model.specs.Bag.{bag}
use Rattle.chem_model.specs.NewNames.{coded_pair}
use Rattle.chem_model.specs.Numbered.{place_pairs, rule_pairs, atom_pairs}
use Rattle.chem_model.specs.Apply.{same_atom, atom_at}
use Rattle.chem_model.specs.Each.{Each}

abbrev pub PlacesDiffer : List Placed → Type 0
PlacesDiffer ps = (p : ℕ × ℕ) → bag coded_pair (place_pairs ps) p ≤ 1

abbrev pub RulesDiffer : List NumberedRule → Type 0
RulesDiffer rules = (p : ℕ × ℕ) → bag coded_pair (rule_pairs rules) p ≤ 1

abbrev pub AtomsDiffer : List NumberedAtom → Type 0
AtomsDiffer atoms = (p : ℕ × ℕ) → bag coded_pair (atom_pairs atoms) p ≤ 1

-- the one at this place, among the first so many, has this number
abbrev pub IsAtomAt : List NumberedAtom → ℕ → AtomId → ℕ → Type 0
IsAtomAt atoms count i j =
    (a : NumberedAtom) × (j < count) × (j < length atoms) × (a ≡ get_or atoms j a)
    × (same_atom a.id i ≡ true)

-- ---- a few that were picked out of a list by their numbers

abbrev pub IsPicked : List NumberedAtom → List NumberedAtom → AtomId → Type 0
IsPicked atoms few i = (a : NumberedAtom) → atom_at atoms i ≡ Some a → atom_at few i ≡ Some a

-- what is found among the few is found in the list; and for these numbers the other way round
pub record ArePicked (atoms : List NumberedAtom) (took : List AtomId) (few : List NumberedAtom)
    : Type 0 where
  pub right : (i : AtomId) (a : NumberedAtom) → atom_at few i ≡ Some a → atom_at atoms i ≡ Some a
  pub all : Each (IsPicked atoms few) took
