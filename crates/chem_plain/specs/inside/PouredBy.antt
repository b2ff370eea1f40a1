-- What is made by what a pouring is made with, from a number on.
use Rattle.std.specs.Prelude.{ℕ, List, ◌++◌}
use Rattle.chem_model.specs.declared.name.Ref.{Ref}
use Rattle.chem_model.specs.Process.{Process, Processes, Definition, Definitions}
use Rattle.chem_model.specs.declared.numbered.Made.{Made}
use Rattle.chem_model.specs.Operations.{operated}
use Rattle.chem_model.specs.Pour.{Drawn, known, said_made, operated_made, message_made, naming}
use Rattle.chem_model.specs.Pour.{names_made, births_of, lay_rules, rules_made, lay, pour}
use Rattle.chem_model.specs.Pour.{pour_all, lay_places, lay_place}
use Rattle.chem_plain.specs.declared.pour.Pouring.{Pouring}
use Rattle.chem_plain.specs.inside.Names.{names_of}

module _ (by : Pouring) (k : ℕ) where
  -- a message whose names are known
  abbrev pub said_by : Ref → List Ref → Made
  said_by on args = said_made by.seen.now by.root.site by.at k on args

  abbrev pub operated_by : ℕ → List Ref → Made
  operated_by op args =
      operated_made by.seen.now by.root.site by.at k op args (operated op (known args))

  abbrev pub message_by : Ref → List Ref → Made
  message_by on args = message_made by.seen.now by.root.site by.at k on args

  -- the rules of a level
  abbrev pub rules_by : Definitions → Made
  rules_by ds = rules_made (lay_rules by.root.site (names_of by.names.now) by.at k ds)

  -- a level that is named: its names are given, and its places are born
  abbrev pub named_by : Definitions → Drawn
  named_by ds = naming by.root.site by.at ds k

  abbrev pub opened_by : Definitions → Made
  opened_by ds =
      let level = named_by ds in
      names_made level (births_of by.root (names_of by.names.now ++ level.names) ds)

  -- processes that are poured, and levels that are laid
  abbrev pub poured_by : Process → Made
  poured_by p = pour by.seen.now by.root.site by.root (names_of by.names.now) by.at k p

  abbrev pub all_poured_by : Processes → Made
  all_poured_by ps = pour_all by.seen.now by.root.site by.root (names_of by.names.now) by.at k ps

  abbrev pub places_by : Definitions → Made
  places_by ds = lay_places by.seen.now by.root.site by.root (names_of by.names.now) by.at k ds

  abbrev pub place_by : Definition → Made
  place_by d = lay_place by.seen.now by.root.site by.root (names_of by.names.now) by.at k d

  abbrev pub laid_by : Definitions → Made
  laid_by ds = lay by.seen.now by.root.site by.root (names_of by.names.now) by.at k ds
