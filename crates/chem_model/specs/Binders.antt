-- What a list of definitions defines, how often a binder is bound, and how large a term is.
use Rattle.std.specs.Prelude.{ℕ, ◌+◌, ◌==◌, List, [], ◌∷◌, ◌++◌, length, Bool, cond, Option, Some}
use Rattle.std.specs.Prelude.{sum_by}
use Rattle.std.specs.List.{list_any, count_by}
use Rattle.chem_model.specs.declared.name.Ref.{Ref}
use Rattle.chem_model.specs.declared.name.Ref.TheVariants.{Binder, Known}
use Rattle.chem_model.specs.declared.name.Pat.{Pat}
use Rattle.chem_model.specs.Process.{Process, Msg, Par, Def, Go, Fail, Halt, Processes, none}
use Rattle.chem_model.specs.Process.{one_more, Definition, Rule, Place, Definitions, no_definition}
use Rattle.chem_model.specs.Process.{and_also}

-- the binder that an occurrence is, where it is one
abbrev pub binder_of : Ref → List ℕ
binder_of (Binder b) = b ∷ []
binder_of (Known n) = []

-- the channels of a join pattern, from left to right
abbrev pub channels_of : List Pat → List ℕ
channels_of [] = []
channels_of (p ∷ ps) = binder_of p.on ++ channels_of ps

-- the received names of a join pattern, from left to right
abbrev pub params_of : List Pat → List ℕ
params_of [] = []
params_of (p ∷ ps) = p.params ++ params_of ps

-- the block of a list of definitions: the channels of its rules, the names of its places, and the
-- block of each place's own definitions
abbrev mutual
  pub block : Definitions → List ℕ
  block no_definition = []
  block (and_also d ds) = defined d ++ block ds

  pub defined : Definition → List ℕ
  defined (Rule ps p) = channels_of ps
  defined (Place a ds p) = binder_of a ++ block ds

-- the names of the places of a block
abbrev mutual
  pub places_of : Definitions → List ℕ
  places_of no_definition = []
  places_of (and_also d ds) = place_of d ++ places_of ds

  pub place_of : Definition → List ℕ
  place_of (Rule ps p) = []
  place_of (Place a ds p) = binder_of a ++ places_of ds

-- the message patterns of a list of definitions that stands at a location
abbrev pub at : Option Ref → List Pat → List (Option Ref × Pat)
at l [] = []
at l (p ∷ ps) = (l, p) ∷ at l ps

-- the message patterns of a block, each with the place of the block at which its rule stands: none
-- where it stands in no place
abbrev mutual
  pub patterns_of : Option Ref → Definitions → List (Option Ref × Pat)
  patterns_of l no_definition = []
  patterns_of l (and_also d ds) = patterns_in l d ++ patterns_of l ds

  pub patterns_in : Option Ref → Definition → List (Option Ref × Pat)
  patterns_in l (Rule ps p) = at l ps
  patterns_in l (Place a ds p) = patterns_of (Some a) ds

abbrev pub is_among : List ℕ → ℕ → Bool
is_among bs b = list_any (λ c. c == b) bs

-- how often a number stands in a list
abbrev pub times : List ℕ → ℕ → ℕ
times bs b = count_by (λ c. c == b) bs

-- a block binds each of its binders once, however many patterns a channel has
abbrev pub once : List ℕ → ℕ → ℕ
once bs b = cond (is_among bs b) 1 0

-- how often a binder is bound in a term: by the block of a `def`, or as a parameter of a join
-- pattern
abbrev mutual
  pub bound_in : Process → ℕ → ℕ
  bound_in (Msg x vs) b = 0
  bound_in (Par ps) b = bound_in_all ps b
  bound_in (Def ds p) b = once (block ds) b + bound_in_definitions ds b + bound_in p b
  bound_in (Go a k) b = 0
  bound_in (Fail a k) b = 0
  bound_in Halt b = 0

  pub bound_in_all : Processes → ℕ → ℕ
  bound_in_all none b = 0
  bound_in_all (one_more p ps) b = bound_in p b + bound_in_all ps b

  pub bound_in_definition : Definition → ℕ → ℕ
  bound_in_definition (Rule ps p) b = times (params_of ps) b + bound_in p b
  bound_in_definition (Place a ds p) b = bound_in_definitions ds b + bound_in p b

  pub bound_in_definitions : Definitions → ℕ → ℕ
  bound_in_definitions no_definition b = 0
  bound_in_definitions (and_also d ds) b = bound_in_definition d b + bound_in_definitions ds b

-- a pattern, its channel and its parameters
abbrev pub pattern_nodes : List Pat → ℕ
pattern_nodes ps = sum_by (λ p. 2 + length p.params) ps

-- the nodes of a term: its processes, its definitions, its patterns and its occurrences of names
abbrev mutual
  pub nodes : Process → ℕ
  nodes (Msg x vs) = 2 + length vs
  nodes (Par ps) = 1 + nodes_of_all ps
  nodes (Def ds p) = 1 + definition_nodes ds + nodes p
  nodes (Go a k) = 3
  nodes (Fail a k) = 3
  nodes Halt = 1

  pub nodes_of_all : Processes → ℕ
  nodes_of_all none = 0
  nodes_of_all (one_more p ps) = nodes p + nodes_of_all ps

  pub nodes_of : Definition → ℕ
  nodes_of (Rule ps p) = 1 + pattern_nodes ps + nodes p
  nodes_of (Place a ds p) = 2 + definition_nodes ds + nodes p

  pub definition_nodes : Definitions → ℕ
  definition_nodes no_definition = 0
  definition_nodes (and_also d ds) = nodes_of d + definition_nodes ds
