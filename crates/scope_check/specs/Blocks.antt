-- Blocks, parameter lists, and what a spelling is resolved to.
use Rattle.std.specs.Prelude.{ℕ, ◌+◌, List, [], ◌∷◌, ◌++◌, Option}
use Rattle.std.specs.Prelude.{Some, None, length, if◌then◌else◌}
use Rattle.std.specs.Str.{bytes_eq}
use Rattle.join_parse.specs.declared.word.Word.{Word}
use Rattle.join_parse.specs.declared.word.PatTree.{PatTree}
use Rattle.join_parse.specs.declared.word.SeenTree.{SeenTree}
use Rattle.join_parse.specs.declared.tree.PlaceTree.{PlaceTree}
use Rattle.join_parse.specs.Source.{Process, Zero, Msg, Go, Fail, Halt, Add, Same, Group, Def}
use Rattle.join_parse.specs.Source.{Processes}
use Rattle.join_parse.specs.Source.{none, one_more, Definition, Rule, Place, Definitions}
use Rattle.join_parse.specs.Source.{no_definition, and_also, processes, definitions}
use Rattle.join_parse.specs.Grammar.{TreeOfText}
use Rattle.scope_names.specs.declared.scope.Sort.{Sort}
use Rattle.scope_names.specs.declared.scope.Sort.TheVariants.{Channel, Location}
use Rattle.scope_names.specs.declared.scope.Sort.TheVariants.{Observed, Parameter}

-- an occurrence that defines: a word, and what it makes of the spelling
abbrev pub Defining : Type 0
Defining = Word × Sort

-- the channels of a join pattern that stands at this location
abbrev pub channels : ℕ → List PatTree → List Defining
channels at [] = []
channels at (p ∷ ps) = (p.on, Channel (length p.params) at) ∷ channels at ps

abbrev pub params : List PatTree → List Word
params [] = []
params (p ∷ ps) = p.params ++ params ps

abbrev pub parameters : List Word → List Defining
parameters [] = []
parameters (w ∷ ws) = (w, Parameter) ∷ parameters ws

-- how many places a block has here
abbrev mutual
  pub places_of : Definition → ℕ
  places_of (Rule pats body) = 0
  places_of (Place o a ds body) = 1 + places ds

  pub places : Definitions → ℕ
  places no_definition = 0
  places (and_also d ds) = places_of d + places ds

-- The defining occurrences of a block in source order, those of its places included.
-- Within a block the definitions' own location is 0, and its places are 1, 2, .. in source order:
-- `at` is where the definitions stand, and `next` is the number of the next place.
abbrev mutual
  pub defining_one : (at next : ℕ) → Definition → List Defining
  defining_one at next (Rule pats body) = channels at pats
  defining_one at next (Place o a ds body) = (a, Location) ∷ defining next (next + 1) ds

  pub defining : (at next : ℕ) → Definitions → List Defining
  defining at next no_definition = []
  defining at next (and_also d ds) = defining_one at next d ++ defining at (next + places_of d) ds

abbrev pub block : Definitions → List Defining
block ds = defining 0 1 ds

-- a site, as a definition of the outermost block
abbrev pub place_of : PlaceTree → Definition
place_of s = Place s.opener s.name (definitions s.defs) (processes s.body)

abbrev pub sites_of : List PlaceTree → Definitions
sites_of [] = no_definition
sites_of (s ∷ ss) = and_also (place_of s) (sites_of ss)

abbrev pub observed_from : ℕ → List SeenTree → List Defining
observed_from i [] = []
observed_from i (s ∷ ss) = (s.name, Observed s.count i) ∷ observed_from (i + 1) ss

-- all observed names, all sites, and all that the sites define
abbrev pub outermost : TreeOfText → List Defining
outermost t = observed_from 0 t.seen ++ block (sites_of t.sites)

-- the first defining occurrence of a spelling
abbrev pub first_in : List ℕ → List Defining → Option Sort
first_in text [] = None
first_in text (d ∷ ds) = if bytes_eq text d.0.text then Some d.1 else first_in text ds

-- a block or a parameter list, with its number in the tree
pub record Scope : Type 0 where
  pub number : ℕ
  pub names : List Defining

pub record Resolved : Type 0 where
  pub scope : ℕ
  pub sort : Sort

abbrev pub resolved_in : ℕ → Option Sort → Option Resolved → Option Resolved
resolved_in k None outer = outer
resolved_in k (Some s) outer = Some (record { scope = k; sort = s })

-- the innermost scope with that spelling resolves it
abbrev pub resolve : List Scope → List ℕ → Option Resolved
resolve [] text = None
resolve (s ∷ env) text = resolved_in s.number (first_in text s.names) (resolve env text)

-- how many scopes are opened within: one for each block, and one for each rule's parameters
abbrev mutual
  pub scopes_in : Process → ℕ
  scopes_in Zero = 0
  scopes_in (Msg on args) = 0
  scopes_in (Go b k) = 0
  scopes_in (Fail b k) = 0
  scopes_in Halt = 0
  scopes_in (Add l r c) = 0
  scopes_in (Same l r c d) = 0
  scopes_in (Group ps) = scopes_in_all ps
  scopes_in (Def ds ps) = 1 + scopes_in_defs ds + scopes_in_all ps

  pub scopes_in_all : Processes → ℕ
  scopes_in_all none = 0
  scopes_in_all (one_more p ps) = scopes_in p + scopes_in_all ps

  pub scopes_in_def : Definition → ℕ
  scopes_in_def (Rule pats body) = 1 + scopes_in_all body
  scopes_in_def (Place o a ds body) = scopes_in_defs ds + scopes_in_all body

  pub scopes_in_defs : Definitions → ℕ
  scopes_in_defs no_definition = 0
  scopes_in_defs (and_also d ds) = scopes_in_def d + scopes_in_defs ds

-- within a scope with this number and these names
abbrev pub open_at : ℕ → List Defining → List Scope → List Scope
open_at k names env = record { number = k; names = names } ∷ env
