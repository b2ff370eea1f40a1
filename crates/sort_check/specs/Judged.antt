-- Which faults of sorts a tree has, and what the judge answers.
use Rattle.std.specs.Prelude.{◌≡◌, ℕ, ◌<◌, ◌≤◌, ◌⊎◌, List, Some}
use Rattle.chem_model.specs.declared.event.Event.{Event}
use Rattle.chem_model.specs.declared.numbered.Numbered.{Numbered}
use Rattle.chem_model.specs.ProgramFacts.{ProgramTerms, IsProgram}
use Rattle.chem_model.specs.Each.{IsIn}
use Rattle.chem_model.specs.Apply.{replay}
use Rattle.join_parse.specs.Grammar.{TreeOfText}
use Rattle.scope_check.specs.Checked.{IsProgramOf}
use Rattle.sort_laws.specs.declared.sorts.Sorts.{Sorts}
use Rattle.sort_laws.specs.Sorted.{Sorting}
use Rattle.sort_laws.specs.Table.{sorting}
use Rattle.sort_laws.specs.Asks.{IsWrongAs}
use Rattle.sort_laws.specs.Laws.{NoneWrong}
use Rattle.sort_check.specs.Asked.{Asked, asked_of}
use Rattle.sort_check.specs.declared.judged.Judged.{Judged}
use Rattle.sort_check.specs.declared.judged.Judged.TheVariants.{Yes, No}

-- The tree has this fault at this place: something is asked there, and the answer is wrong so.
pub record IsFault (t : Sorting) (tree : TreeOfText) (kind place : ℕ) : Type 0 where
  pub asked : Asked
  pub stands : IsIn asked (asked_of t tree)
  pub here : place ≡ asked.place
  pub wrong : IsWrongAs t.args asked.demand asked.sort kind

-- the least place, and at one place the least number
abbrev pub IsSooner : (kind place k q : ℕ) → Type 0
IsSooner kind place k q = (place < q) ⊎ ((place ≡ q) × (kind ≤ k))

abbrev pub IsFirstFault : Sorting → TreeOfText → ℕ → ℕ → Type 0
IsFirstFault t tree kind place =
    IsFault t tree kind place
    × ((k q : ℕ) → IsFault t tree k q → IsSooner kind place k q)

abbrev pub HasNoFault : Sorting → TreeOfText → Type 0
HasNoFault t tree = (kind place : ℕ) → IsFault t tree kind place → ⊥

-- The judge's answer on a tree, its program and declared sorts.
abbrev pub IsJudged : TreeOfText → ProgramTerms → Sorts → Judged → Type 0
IsJudged tree p sorts Yes = HasNoFault (sorting sorts p) tree
IsJudged tree p sorts (No kind place) = IsFirstFault (sorting sorts p) tree kind place

-- One of these is the judge's answer, and none of the others.
pub record HasOneJudgement (tree : TreeOfText) (p : ProgramTerms) (sorts : Sorts) : Type 0 where
  pub some : (judged : Judged) × IsJudged tree p sorts judged
  pub one : (a b : Judged) → IsJudged tree p sorts a → IsJudged tree p sorts b → a ≡ b

abbrev pub TreesHaveOneJudgement : Type 0
TreesHaveOneJudgement =
    (tree : TreeOfText) (p : ProgramTerms) (sorts : Sorts) → HasOneJudgement tree p sorts

-- Where a tree has no fault by declared sorts, no solution of a replay of its program holds a wrong
-- atom.
abbrev pub NoFaultNoWrongAtom : Type 0
NoFaultNoWrongAtom =
    (tree : TreeOfText) (p : ProgramTerms) (sorts : Sorts) → IsProgramOf tree p → IsProgram p
    → HasNoFault (sorting sorts p) tree → (journal : List Event) (n : Numbered)
    → replay p journal ≡ Some n → NoneWrong n

-- Yes means that no solution of a replay of the program holds a wrong atom.
abbrev pub MeansNoWrongAtom : ProgramTerms → Judged → Type 0
MeansNoWrongAtom p Yes =
    (journal : List Event) (n : Numbered) → replay p journal ≡ Some n → NoneWrong n
MeansNoWrongAtom p (No kind place) = Unit {0}
