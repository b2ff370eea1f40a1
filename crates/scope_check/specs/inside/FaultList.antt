-- The faults of a walk through a tree, part by part in its order.
use Rattle.std.specs.Prelude.{ℕ, ◌==◌, Bool, List, [], ◌∷◌, ◌++◌, Option, Some, None, if◌then◌else◌}
use Rattle.std.specs.List.{list_any}
use Rattle.std.specs.Str.{bytes_eq}
use Rattle.join_base.specs.declared.fault.Kind.{Kind}
use Rattle.join_base.specs.declared.fault.Kind.TheVariants.{Scope2, Scope3, Scope4, Scope5, Scope6}
use Rattle.join_base.specs.declared.fault.Kind.TheVariants.{Arity1, Arity2, Arity3, Arity4}
use Rattle.join_parse.specs.declared.word.Word.{Word}
use Rattle.join_parse.specs.declared.word.PatTree.{PatTree}
use Rattle.join_parse.specs.declared.tree.PlaceTree.{PlaceTree}
use Rattle.join_parse.specs.Source.{Process, Zero, Msg, Go, Fail, Halt, Add, Same, Group, Def}
use Rattle.join_parse.specs.Source.{Processes, none}
use Rattle.join_parse.specs.Source.{one_more, Definition, Rule, Place, Definitions, no_definition}
use Rattle.join_parse.specs.Source.{and_also}
use Rattle.scope_names.specs.declared.scope.Sort.{Sort}
use Rattle.scope_names.specs.declared.scope.Sort.TheVariants.{Channel, Location, Observed}
use Rattle.scope_names.specs.declared.scope.Sort.TheVariants.{Parameter}
use Rattle.scope_check.specs.declared.fault.Fault.{Fault}
use Rattle.scope_check.specs.Blocks.{Defining, params, block, first_in}
use Rattle.scope_check.specs.Faults.{ons}

abbrev pub fault : Kind → Word → List Fault
fault k w = record { kind = k; place = w.place } ∷ []

abbrev pub unless : Bool → List Fault → List Fault
unless fine faults = if fine then [] else faults

abbrev pub called_as : Word → ℕ → Sort → List Fault
called_as w n (Channel m at) = unless (m == n) (fault Arity1 w)
called_as w n (Observed m i) = unless (m == n) (fault Arity1 w)
called_as w n Location = fault Arity3 w
called_as w n Parameter = []

abbrev pub headed_for : Word → Sort → List Fault
headed_for w (Channel m at) = fault Arity4 w
headed_for w (Observed m i) = fault Arity4 w
headed_for w Location = []
headed_for w Parameter = []

-- a defining occurrence after the first one of its spelling in its block
abbrev pub clash : (first : Sort) → Word → Sort → List Fault
clash (Channel m at) w (Channel n here) =
    unless (m == n) (fault Arity2 w) ++ unless (at == here) (fault Scope2 w)
clash first w later = fault Scope3 w

abbrev pub clash_if : Option Sort → Word → Sort → List Fault
clash_if None w later = []
clash_if (Some first) w later = clash first w later

abbrev pub clashes : (before names : List Defining) → List Fault
clashes before [] = []
clashes before (d ∷ ds) =
    clash_if (first_in d.0.text before) d.0 d.1 ++ clashes (before ++ d ∷ []) ds

-- a word with the spelling of an earlier one of the list
abbrev pub is_spelled_in : List ℕ → List Word → Bool
is_spelled_in text ws = list_any (λ w. bytes_eq text w.text) ws

abbrev pub repeated_if : Bool → Kind → Word → List Fault
repeated_if there kind w = if there then fault kind w else []

abbrev pub repeats : Kind → (before words : List Word) → List Fault
repeats kind before [] = []
repeats kind before (w ∷ ws) =
    repeated_if (is_spelled_in w.text before) kind w ++ repeats kind (before ++ w ∷ []) ws

abbrev pub pattern_faults : List PatTree → List Fault
pattern_faults pats = repeats Scope5 [] (ons pats) ++ repeats Scope4 [] (params pats)

abbrev mutual
  pub process_faults : Process → List Fault
  process_faults Zero = []
  process_faults (Msg on args) = []
  process_faults (Go b c) = []
  process_faults (Fail b c) = []
  process_faults Halt = []
  process_faults (Add l r c) = []
  process_faults (Same l r c d) = []
  process_faults (Group ps) = processes_faults ps
  process_faults (Def ds ps) = clashes [] (block ds) ++ (level_faults ds ++ processes_faults ps)

  pub processes_faults : Processes → List Fault
  processes_faults none = []
  processes_faults (one_more p ps) = process_faults p ++ processes_faults ps

  pub definition_faults : Definition → List Fault
  definition_faults (Rule pats body) = pattern_faults pats ++ processes_faults body
  definition_faults (Place o a ds body) = level_faults ds ++ processes_faults body

  pub level_faults : Definitions → List Fault
  level_faults no_definition = []
  level_faults (and_also d ds) = definition_faults d ++ level_faults ds

-- sites above the limit
abbrev pub many : List PlaceTree → List Fault
many [] = []
many (s ∷ ss) = record { kind = Scope6; place = s.opener } ∷ many ss
