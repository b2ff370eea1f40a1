-- The sorts of a program's names, as lists that are gathered.
use Rattle.std.specs.Prelude.{ℕ, List, [], ◌∷◌, ◌++◌, Option, Some}
use Rattle.chem_model.specs.declared.name.Pat.{Pat}
use Rattle.chem_model.specs.declared.program.SeenDecl.{SeenDecl}
use Rattle.chem_model.specs.declared.program.SiteTerm.{SiteTerm}
use Rattle.chem_model.specs.Process.{Process, Processes, Definition, Definitions, definitions}
use Rattle.sort_laws.specs.declared.sorts.Entry.{Entry}
use Rattle.sort_laws.specs.declared.sorts.SortArg.{SortArg}
use Rattle.sort_laws.specs.declared.sorts.SortArg.TheVariants as arg
use Rattle.sort_laws.specs.Sorted.{Sorting}
use Rattle.sort_laws.specs.Table as table

-- the sort of each spelling, where this is what one has
abbrev pub sorts_of : (List ℕ → Option SortArg) → List (List ℕ) → List (Option SortArg)
sorts_of said [] = []
sorts_of said (text ∷ more) = said text ∷ sorts_of said more

abbrev pub seen_sorts : (List ℕ → Option SortArg) → List SeenDecl → List (Option SortArg)
seen_sorts said [] = []
seen_sorts said (d ∷ ds) = said d.spell ∷ seen_sorts said ds

module _ (r : Sorting) where
  abbrev pub pattern_entries : List Pat → List Entry
  pattern_entries = table.pattern_entries r.args r.binder r.seen

  abbrev pub entries : Process → List Entry
  entries = table.entries r.args r.binder r.seen

  abbrev pub entries_of_all : Processes → List Entry
  entries_of_all = table.entries_of_all r.args r.binder r.seen

  abbrev pub entries_of_definition : Definition → List Entry
  entries_of_definition = table.entries_of_definition r.args r.binder r.seen

  abbrev pub entries_of_definitions : Definitions → List Entry
  entries_of_definitions = table.entries_of_definitions r.args r.binder r.seen

  -- of a site, with its name
  abbrev pub site_entries : SiteTerm → List Entry
  site_entries x =
      record { binder = x.name; sort = Some arg.Place }
      ∷ (entries_of_definitions (definitions x.defs) ++ entries x.body)

  abbrev pub entries_of_sites : List SiteTerm → List Entry
  entries_of_sites [] = []
  entries_of_sites (x ∷ xs) = site_entries x ++ entries_of_sites xs
