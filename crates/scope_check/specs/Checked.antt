-- What the check of a tree answers.
use Rattle.std.specs.Prelude.{◌≡◌, ◌⊎◌, Some, None, Result, Ok, Err}
use Rattle.join_base.specs.declared.fault.Front.{Front}
use Rattle.join_base.specs.declared.fault.Front.TheVariants.{Refused, Memory}
use Rattle.join_lex.specs.Lexical.{IsOrMemory}
use Rattle.join_parse.specs.Grammar.{TreeOfText}
use Rattle.chem_model.specs.ProgramFacts.{ProgramTerms}
use Rattle.scope_check.specs.declared.fault.Fault.{Fault}
use Rattle.scope_check.specs.Order.{IsFirst}
use Rattle.scope_check.specs.Faults.{IsFault}
use Rattle.scope_check.specs.Stands.{program}

-- The tree has no fault, and this is its program.
pub record IsProgramOf (t : TreeOfText) (p : ProgramTerms) : Type 0 where
  pub is : p ≡ program t
  pub none : IsFirst (IsFault t) None

-- The tree's first fault is of this kind at this place.
abbrev pub IsRefusedAs : TreeOfText → Front → Type 0
IsRefusedAs t (Refused kind place) =
    IsFirst (IsFault t) (Some (record { kind = kind; place = place }))
IsRefusedAs t Memory = Unit {0}

-- The program of the tree is answered where it has one, and its first fault where it has it, each
-- but for want of memory.
abbrev pub AnswersProgram : TreeOfText → Result ProgramTerms Front → Type 0
AnswersProgram t result = (p : ProgramTerms) → IsProgramOf t p → IsOrMemory (Ok p) result

abbrev pub AnswersFault : TreeOfText → Result ProgramTerms Front → Type 0
AnswersFault t result =
    (f : Fault) → IsFirst (IsFault t) (Some f)
    → IsOrMemory (Err (Refused f.kind f.place)) result

-- A tree has one program or one first fault, and never both.
pub record HasOneOutcome (t : TreeOfText) : Type 0 where
  pub some : ((p : ProgramTerms) × IsProgramOf t p)
      ⊎ ((f : Fault) × IsFirst (IsFault t) (Some f))
  pub one_program : (p q : ProgramTerms) → IsProgramOf t p → IsProgramOf t q → p ≡ q
  pub one_fault : (f g : Fault) → IsFirst (IsFault t) (Some f)
      → IsFirst (IsFault t) (Some g) → f ≡ g
  pub never_both : (p : ProgramTerms) (f : Fault) → IsProgramOf t p
      → IsFirst (IsFault t) (Some f) → ⊥
