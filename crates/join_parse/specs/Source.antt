-- Processes and definitions as they stand in a text.
use Rattle.std.specs.Prelude.{ℕ, List, [], ◌∷◌}
use Rattle.join_parse.specs.declared.word.Word.{Word}
use Rattle.join_parse.specs.declared.word.Arg.{Arg}
use Rattle.join_parse.specs.declared.word.PatTree.{PatTree}

mutual
  pub data Process : Type 0 where
    Zero : Process
    Msg : (on : Word) (args : List Arg) → Process
    Go : (target cont : Word) → Process
    Fail : (target cont : Word) → Process
    Halt : Process
    Add : (left right : Arg) (cont : Word) → Process
    Same : (left right : Arg) (alike apart : Word) → Process
    Group : Processes → Process
    Def : Definitions → Processes → Process

  pub data Processes : Type 0 where
    none : Processes
    one_more : Process → Processes → Processes

  pub data Definition : Type 0 where
    Rule : List PatTree → Processes → Definition
    Place : (opener : ℕ) (name : Word) → Definitions → Processes → Definition

  pub data Definitions : Type 0 where
    no_definition : Definitions
    and_also : Definition → Definitions → Definitions

abbrev pub processes : List Process → Processes
processes [] = none
processes (p ∷ ps) = one_more p (processes ps)

abbrev pub definitions : List Definition → Definitions
definitions [] = no_definition
definitions (d ∷ ds) = and_also d (definitions ds)
