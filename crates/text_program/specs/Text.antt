-- What a text is, in its version: a program, or a refusal of a kind at a place.
use Rattle.std.specs.Prelude.{◌≡◌, ℕ, ◌++◌, ◌⊎◌, List, codes, decimal}
use Rattle.join_base.specs.declared.fault.Kind.{Kind}
use Rattle.join_base.specs.declared.fault.Kind.TheVariants.{Lex1, Lex2, Lex3, Grammar1, Grammar2}
use Rattle.join_base.specs.declared.fault.Kind.TheVariants.{Scope1, Scope2, Scope3, Scope4, Scope5}
use Rattle.join_base.specs.declared.fault.Kind.TheVariants.{Scope6, Arity1, Arity2, Arity3, Arity4}
use Rattle.join_base.specs.declared.fault.Front.TheVariants as front
use Rattle.join_lex.specs.Tokens.{TokensOfText}
use Rattle.join_lex.specs.Lexical.{AreTokensOf, NamesFault}
use Rattle.join_parse.specs.Grammar.{TreeOfText}
use Rattle.join_parse.specs.Faults.{IsTheTree, IsTheRefusal}
use Rattle.scope_check.specs.Checked.{IsProgramOf}
use Rattle.scope_check.specs.Checked as scope
use Rattle.chem_model.specs.ProgramFacts.{ProgramTerms}

-- the refusal of a text: its first lexical fault; else the first token of its tokens after which no
-- sentence goes on; else the first fault of scope or arity of their tree
pub data IsRefusal (text : List ℕ) (kind : Kind) (place : ℕ) : Type 0 where
  lexical : NamesFault (front.Refused kind place) text → IsRefusal text kind place
  grammatical : (t : TokensOfText) → AreTokensOf t text
      → IsTheRefusal t (front.Refused kind place)
      → IsRefusal text kind place
  of_the_tree : (t : TokensOfText) (tree : TreeOfText) → AreTokensOf t text
      → IsTheTree t.list tree
      → scope.IsRefusedAs tree (front.Refused kind place)
      → IsRefusal text kind place

-- the program of a text: that of the one tree of its tokens, where that has no fault
pub record IsProgramOfText (text : List ℕ) (p : ProgramTerms) : Type 0 where
  pub tokens : TokensOfText
  pub tree : TreeOfText
  pub are_tokens : AreTokensOf tokens text
  pub is_tree : IsTheTree tokens.list tree
  pub is_program : IsProgramOf tree p

-- a text has one program or one refusal, and never both
pub record HasOneOutcome (text : List ℕ) : Type 0 where
  pub some : ((p : ProgramTerms) × IsProgramOfText text p)
      ⊎ ((kind : Kind) × (place : ℕ) × IsRefusal text kind place)
  pub one_program : (p q : ProgramTerms)
      → IsProgramOfText text p → IsProgramOfText text q → p ≡ q
  pub never_both : (p : ProgramTerms) (kind : Kind) (place : ℕ)
      → IsProgramOfText text p → IsRefusal text kind place → ⊥
  pub one_refusal : (kind kind' : Kind) (place place' : ℕ)
      → IsRefusal text kind place → IsRefusal text kind' place' → (kind ≡ kind') × (place ≡ place')

-- ---- the line of a refusal

abbrev pub kind_text : Kind → List ℕ
kind_text Lex1 = codes "lex 1"
kind_text Lex2 = codes "lex 2"
kind_text Lex3 = codes "lex 3"
kind_text Grammar1 = codes "grammar 1"
kind_text Grammar2 = codes "grammar 2"
kind_text Scope1 = codes "scope 1"
kind_text Scope2 = codes "scope 2"
kind_text Scope3 = codes "scope 3"
kind_text Scope4 = codes "scope 4"
kind_text Scope5 = codes "scope 5"
kind_text Scope6 = codes "scope 6"
kind_text Arity1 = codes "arity 1"
kind_text Arity2 = codes "arity 2"
kind_text Arity3 = codes "arity 3"
kind_text Arity4 = codes "arity 4"

-- the kind's two words, ` at `, and the place
abbrev pub refusal_line : Kind → ℕ → List ℕ
refusal_line kind place = kind_text kind ++ codes " at " ++ decimal place ++ codes "\n"
