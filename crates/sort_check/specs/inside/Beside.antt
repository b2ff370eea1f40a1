-- What is asked of one member of a list, beside the one of another list at its place.
use Rattle.std.specs.Prelude.{List, [], ◌∷◌, ◌++◌, Option, Some, None}
use Rattle.join_parse.specs.declared.word.PatTree.{PatTree}
use Rattle.join_parse.specs.declared.tree.PlaceTree.{PlaceTree}
use Rattle.join_parse.specs.Source as s
use Rattle.chem_model.specs.declared.name.Pat.{Pat}
use Rattle.chem_model.specs.declared.program.SiteTerm.{SiteTerm}
use Rattle.chem_model.specs.Process as t
use Rattle.sort_laws.specs.Sorted.{Sorting}
use Rattle.sort_check.specs.declared.walk.Table.{Table}
use Rattle.sort_check.specs.Asked.{Asked}
use Rattle.join_parse.specs.declared.word.Arg.{Arg}
use Rattle.chem_model.specs.declared.name.Ref.{Ref}
use Rattle.sort_laws.specs.declared.sorts.SortArg.{SortArg}
use Rattle.sort_check.specs.inside.Pairs.{by_lists, pair_arguments, pair_patterns, pair, pair_all}
use Rattle.sort_check.specs.inside.Pairs.{pair_body, pair_one, pair_level}

-- the sorts that a table keeps
abbrev pub kept : Table → Sorting
kept table = by_lists table.decls.now table.binders.now table.seen.now

module _ (r : Sorting) where
  abbrev pub argument_beside : SortArg → Option Arg → Option Ref → List Asked
  argument_beside s None v = []
  argument_beside s (Some a) None = []
  argument_beside s (Some a) (Some v) = pair_arguments r (s ∷ []) (a ∷ []) (v ∷ [])

  -- a list of processes that isn't of one
  abbrev pub pair_several : s.Processes → t.Process → List Asked
  pair_several ps (t.Par qs) = pair_all r ps qs
  pair_several ps _ = []

  abbrev pub pattern_beside : PatTree → Option Pat → List Asked
  pattern_beside p None = []
  pattern_beside p (Some q) = pair_patterns r (p ∷ []) (q ∷ [])

  abbrev pub process_beside : s.Process → Option t.Process → List Asked
  process_beside p None = []
  process_beside p (Some q) = pair r p q

  abbrev pub definition_beside : s.Definition → Option t.Definition → List Asked
  definition_beside d None = []
  definition_beside d (Some e) = pair_one r d e

  abbrev pub site_pair : PlaceTree → SiteTerm → List Asked
  site_pair x y =
      pair_level r (s.definitions x.defs) (t.definitions y.defs)
      ++ pair_body r (s.processes x.body) y.body

  abbrev pub site_beside : PlaceTree → Option SiteTerm → List Asked
  site_beside x None = []
  site_beside x (Some y) = site_pair x y
