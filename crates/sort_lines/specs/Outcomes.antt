-- What reading the sort lines of a text may answer.
use Rattle.std.specs.Prelude.{◌≡◌, ℕ, ◌≤◌, ◌⊎◌, List, length, Result, Ok, Err}
use Rattle.sort_laws.specs.declared.sorts.Sorts.{Sorts}
use Rattle.sort_lines.specs.declared.read.SortEnd.{SortEnd}
use Rattle.sort_lines.specs.declared.read.SortEnd.TheVariants as sort_end
use Rattle.sort_lines.specs.Lines.{Line, lines_of}
use Rattle.sort_lines.specs.Faults.{IsFirstFault, AreSortsOf}

-- The error names the first fault of the lines; want of memory names none.
abbrev pub NamesFault : List Line → SortEnd → Type 0
NamesFault lines (sort_end.Fault kind place) = IsFirstFault lines kind place
NamesFault lines sort_end.Memory = Unit {0}

-- The result is this answer, or want of memory.
abbrev pub IsOrMemory : Result Sorts SortEnd → Result Sorts SortEnd → Type 0
IsOrMemory answer result = (result ≡ answer) ⊎ (result ≡ Err sort_end.Memory)

-- The sorts of the lines are answered where they have no fault, and their first fault where they
-- have one, each but for want of memory.
abbrev pub AnswersSorts : List Line → Result Sorts SortEnd → Type 0
AnswersSorts lines result =
    (sorts : Sorts) → AreSortsOf lines sorts → IsOrMemory (Ok sorts) result

abbrev pub AnswersFault : List Line → Result Sorts SortEnd → Type 0
AnswersFault lines result =
    (kind place : ℕ) → IsFirstFault lines kind place
    → IsOrMemory (Err (sort_end.Fault kind place)) result

-- Lines declare sorts or have a first fault, never both, and never two of them.
pub record HasOneOutcome (lines : List Line) : Type 0 where
  pub some : ((sorts : Sorts) × AreSortsOf lines sorts)
      ⊎ ((kind : ℕ) × (place : ℕ) × IsFirstFault lines kind place)
  pub one_list : (a b : Sorts) → AreSortsOf lines a → AreSortsOf lines b → a ≡ b
  pub one_fault : (kind place other elsewhere : ℕ) → IsFirstFault lines kind place
      → IsFirstFault lines other elsewhere → (kind ≡ other) × (place ≡ elsewhere)
  pub not_both : (sorts : Sorts) (kind place : ℕ) → AreSortsOf lines sorts
      → IsFirstFault lines kind place → ⊥

abbrev pub LinesHaveOneOutcome : Type 0
LinesHaveOneOutcome =
    (text : List ℕ) → length text ≤ 1048576 → HasOneOutcome (lines_of text)
