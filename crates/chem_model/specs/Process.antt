-- The terms of the calculus: processes and definitions as trees.
use Rattle.std.specs.Prelude.{List, [], ◌∷◌}
use Rattle.chem_model.specs.declared.name.Ref.{Ref}
use Rattle.chem_model.specs.declared.name.Pat.{Pat}

mutual
  pub data Process : Type 0 where
    Msg : (on : Ref) (args : List Ref) → Process
    Par : Processes → Process
    Def : Definitions → Process → Process
    Go : (target cont : Ref) → Process
    Fail : (target cont : Ref) → Process
    Halt : Process

  pub data Processes : Type 0 where
    none : Processes
    one_more : Process → Processes → Processes

  pub data Definition : Type 0 where
    Rule : List Pat → Process → Definition
    Place : Ref → Definitions → Process → Definition

  pub data Definitions : Type 0 where
    no_definition : Definitions
    and_also : Definition → Definitions → Definitions

-- the members, as a list
abbrev pub members : Processes → List Process
members none = []
members (one_more p ps) = p ∷ members ps

abbrev pub processes : List Process → Processes
processes [] = none
processes (p ∷ ps) = one_more p (processes ps)

abbrev pub clauses : Definitions → List Definition
clauses no_definition = []
clauses (and_also d ds) = d ∷ clauses ds

abbrev pub definitions : List Definition → Definitions
definitions [] = no_definition
definitions (d ∷ ds) = and_also d (definitions ds)
