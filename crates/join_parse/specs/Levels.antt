-- The nesting levels that are open after each terminal of a tree, where so many are open before it.
use Rattle.std.specs.Prelude.{ℕ, ◌+◌, ◌≤◌, Bool, true, false, List, [], ◌∷◌}
use Rattle.join_parse.specs.declared.word.PatTree.{PatTree}
use Rattle.join_parse.specs.declared.word.SeenTree.{SeenTree}
use Rattle.join_parse.specs.declared.tree.PlaceTree.{PlaceTree}
use Rattle.join_parse.specs.Source.{Process, Zero, Msg, Go, Fail, Halt, Add, Same}
use Rattle.join_parse.specs.Source.{Group, Def, Processes, none, one_more, Definition, Rule}
use Rattle.join_parse.specs.Source.{Place, Definitions}
use Rattle.join_parse.specs.Source.{no_definition, and_also, processes, definitions}
use Rattle.join_parse.specs.Grammar.{TreeOfText, is_second}

-- The parentheses of arguments open no level.
abbrev pub more_names_levels : {A : Type 0} → ℕ → List A → List ℕ → List ℕ
more_names_levels d [] rest = d ∷ rest
more_names_levels d (w ∷ ws) rest = d ∷ d ∷ more_names_levels d ws rest

abbrev pub names_levels : {A : Type 0} → ℕ → List A → List ℕ → List ℕ
names_levels d [] rest = d ∷ rest
names_levels d (w ∷ ws) rest = d ∷ more_names_levels d ws rest

abbrev pub applied_levels : {A : Type 0} → ℕ → List A → List ℕ → List ℕ
applied_levels d ws rest = d ∷ d ∷ names_levels d ws rest

abbrev pub more_patterns_levels : ℕ → List PatTree → List ℕ → List ℕ
more_patterns_levels d [] rest = d ∷ rest
more_patterns_levels d (p ∷ ps) rest =
    d ∷ applied_levels d p.params (more_patterns_levels d ps rest)

abbrev pub patterns_levels : ℕ → List PatTree → List ℕ → List ℕ
patterns_levels d [] rest = d ∷ rest
patterns_levels d (p ∷ ps) rest = applied_levels d p.params (more_patterns_levels d ps rest)

abbrev pub pair_levels : ℕ → List ℕ → List ℕ
pair_levels d rest = d ∷ d ∷ d ∷ d ∷ d ∷ d ∷ rest

-- The `(` of a group, the `[` of a place and `def` open a level. The first two are closed by their
-- bracket, and a `def`'s level ends with its process.
abbrev mutual
  pub process_levels : Process → ℕ → List ℕ → List ℕ
  process_levels Zero d rest = d ∷ rest
  process_levels (Msg on args) d rest = applied_levels d args rest
  process_levels (Go target cont) d rest = pair_levels d rest
  process_levels (Fail target cont) d rest = pair_levels d rest
  process_levels Halt d rest = d ∷ d ∷ d ∷ rest
  process_levels (Add left right cont) d rest = d ∷ d ∷ d ∷ d ∷ d ∷ d ∷ d ∷ d ∷ rest
  process_levels (Same left right alike apart) d rest =
      d ∷ d ∷ d ∷ d ∷ d ∷ d ∷ d ∷ d ∷ d ∷ d ∷ rest
  process_levels (Group ps) d rest = (1 + d) ∷ processes_levels ps (1 + d) (d ∷ rest)
  process_levels (Def ds ps) d rest =
      (1 + d) ∷ definitions_levels ds (1 + d) ((1 + d) ∷ processes_levels ps (1 + d) rest)

  pub processes_levels : Processes → ℕ → List ℕ → List ℕ
  processes_levels none d rest = rest
  processes_levels (one_more p ps) d rest = process_levels p d (more_processes_levels ps d rest)

  pub more_processes_levels : Processes → ℕ → List ℕ → List ℕ
  more_processes_levels none d rest = rest
  more_processes_levels (one_more p ps) d rest =
      d ∷ process_levels p d (more_processes_levels ps d rest)

  pub definition_levels : Definition → ℕ → List ℕ → List ℕ
  definition_levels (Rule pats ps) d rest = patterns_levels d pats (processes_levels ps d rest)
  definition_levels (Place opener name ds ps) d rest =
      d ∷ (1 + d) ∷ definitions_levels ds (1 + d) ((1 + d) ∷ processes_levels ps (1 + d) (d ∷ rest))

  pub definitions_levels : Definitions → ℕ → List ℕ → List ℕ
  definitions_levels no_definition d rest = d ∷ rest
  definitions_levels (and_also e ds) d rest =
      definition_levels e d (more_definitions_levels ds d rest)

  pub more_definitions_levels : Definitions → ℕ → List ℕ → List ℕ
  more_definitions_levels no_definition d rest = rest
  more_definitions_levels (and_also e ds) d rest =
      d ∷ definition_levels e d (more_definitions_levels ds d rest)

abbrev pub declarations_levels : List SeenTree → List ℕ → List ℕ
declarations_levels [] rest = rest
declarations_levels (d ∷ ds) rest = 0 ∷ 0 ∷ 0 ∷ 0 ∷ 0 ∷ declarations_levels ds rest

-- The `[` of a site opens a level, and its `]` closes it.
abbrev pub sites_levels : List PlaceTree → List ℕ → List ℕ
sites_levels [] rest = rest
sites_levels (s ∷ ss) rest =
    0 ∷ 0 ∷ 1
    ∷ definitions_levels (definitions s.defs) 1
    (1 ∷ processes_levels (processes s.body) 1 (0 ∷ sites_levels ss rest))

abbrev pub opening_levels : Bool → List ℕ → List ℕ
opening_levels false rest = rest
opening_levels true rest = 0 ∷ 0 ∷ 0 ∷ rest

-- the level of each terminal of a tree's sentence
abbrev pub levels : TreeOfText → List ℕ
levels t =
    opening_levels (is_second t.version) (declarations_levels t.seen (sites_levels t.sites []))

-- no level is above the limit
abbrev pub AreWithin : ℕ → List ℕ → Type 0
AreWithin limit [] = Unit {0}
AreWithin limit (l ∷ ls) = (l ≤ limit) × AreWithin limit ls

-- how many nesting levels a tree of the second version may have, and one of the first
abbrev pub most_levels : Bool → ℕ
most_levels true = 400
most_levels false = 200
