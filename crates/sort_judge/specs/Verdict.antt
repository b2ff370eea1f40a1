-- What is said of a text by the sorts that it declares.
use Rattle.std.specs.Prelude.{◌≡◌, ◌⊎◌, ℕ, ◌++◌, List, codes, decimal}
use Rattle.chem_model.specs.ProgramFacts.{ProgramTerms, IsProgram}
use Rattle.join_parse.specs.Grammar.{TreeOfText}
use Rattle.sort_laws.specs.declared.sorts.Sorts.{Sorts}
use Rattle.sort_lines.specs.Lines.{Line, lines_of}
use Rattle.sort_lines.specs.Faults.{AreSortsOf}
use Rattle.sort_lines.specs.Faults as lines
use Rattle.sort_check.specs.declared.judged.Judged.{Judged}
use Rattle.sort_check.specs.declared.judged.Judged.TheVariants.{Yes, No}
use Rattle.sort_check.specs.Judged.{IsJudged, MeansNoWrongAtom}
use Rattle.text_program.specs.Text.{IsProgramOfText}

-- the sort lines declare sorts, and this is what the judge says by them
pub record IsByWords (ls : List Line) (tree : TreeOfText) (p : ProgramTerms)
    (verdict : Judged) : Type 0 where
  pub sorts : Sorts
  pub declared : AreSortsOf ls sorts
  pub judged : IsJudged tree p sorts verdict

-- the verdict on a tree with its program: the first fault of the sort lines, where they have one,
-- and else what the judge says by the sorts that they declare
abbrev pub IsVerdict : List Line → TreeOfText → ProgramTerms → Judged → Type 0
IsVerdict ls tree p Yes = IsByWords ls tree p Yes
IsVerdict ls tree p (No kind place) =
    lines.IsFirstFault ls kind place ⊎ IsByWords ls tree p (No kind place)

-- The verdict on a text that has a program. At a yes no solution of a replay of the program holds a
-- wrong atom.
pub record IsVerdictOn (text : List ℕ) (verdict : Judged) : Type 0 where
  pub program : ProgramTerms
  pub is_program : IsProgramOfText text program
  pub is : IsVerdict (lines_of text) is_program.tree program verdict
  pub keeps : MeansNoWrongAtom program verdict

-- a text has at most one verdict, and has one where it has a program
pub record HasOneVerdict (text : List ℕ) : Type 0 where
  pub some : (p : ProgramTerms) → IsProgram p → IsProgramOfText text p
      → (verdict : Judged) × IsVerdictOn text verdict
  pub one : (a b : Judged) → IsVerdictOn text a → IsVerdictOn text b → a ≡ b

-- ---- how a verdict is told

-- `yes`, or the number and the place of the first fault
abbrev pub verdict_text : Judged → List ℕ
verdict_text Yes = codes "yes\n"
verdict_text (No kind place) =
    codes "no sort " ++ decimal kind ++ codes " at " ++ decimal place ++ codes "\n"

abbrev pub verdict_status : Judged → ℕ
verdict_status Yes = 0
verdict_status (No kind place) = 7
