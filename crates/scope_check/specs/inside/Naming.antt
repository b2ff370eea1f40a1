-- What the first walk computes: the tables of all scopes, each binder with its number, and the
-- spellings in the order of the numbers.
use Rattle.std.specs.Prelude.{ℕ, ◌+◌, Bool, true, false, List, [], ◌∷◌, ◌++◌, length, is_some}
use Rattle.join_parse.specs.declared.word.Word.{Word}
use Rattle.join_parse.specs.declared.word.PatTree.{PatTree}
use Rattle.join_parse.specs.declared.tree.PlaceTree.{PlaceTree}
use Rattle.join_parse.specs.Source.{Process, Zero, Msg, Go, Fail, Halt, Add, Same, Group, Def}
use Rattle.join_parse.specs.Source.{Processes, none}
use Rattle.join_parse.specs.Source.{one_more, Definition, Rule, Place, Definitions, no_definition}
use Rattle.join_parse.specs.Source.{and_also}
use Rattle.scope_names.specs.declared.scope.Entry.{Entry}
use Rattle.scope_names.specs.declared.scope.Sort.{Sort}
use Rattle.scope_names.specs.declared.scope.Sort.TheVariants.{Channel, Location, Observed}
use Rattle.scope_names.specs.declared.scope.Sort.TheVariants.{Parameter}
use Rattle.scope_names.specs.Frames.{in_frame}
use Rattle.scope_check.specs.Blocks.{Defining, places_of, sites_of}
use Rattle.scope_check.specs.inside.Twin.{Table}

pub record Named : Type 0 where
  pub table : Table
  pub spell : List (List ℕ)

-- the number of an entry, where this is the next binder's: an observed name has none
abbrev pub numbered_as : Sort → ℕ → ℕ
numbered_as (Observed m i) n = 0
numbered_as (Channel m at) n = n
numbered_as Location n = n
numbered_as Parameter n = n

abbrev pub spells_as : Sort → List (List ℕ) → List ℕ → List (List ℕ)
spells_as (Observed m i) spell text = spell
spells_as (Channel m at) spell text = spell ++ text ∷ []
spells_as Location spell text = spell ++ text ∷ []
spells_as Parameter spell text = spell ++ text ∷ []

abbrev pub name_if : Bool → List (List ℕ) → Table → Word → Sort → Named
name_if true spell table w sort = record { table = table; spell = spell }
name_if false spell table w sort =
    let entry : Entry = record { sort = sort; binder = numbered_as sort (length spell) } in
    record { table = table ++ (w.text, entry) ∷ []; spell = spells_as sort spell w.text }

-- a word that isn't in the table yet takes the next number
abbrev pub name_one : List (List ℕ) → Table → Word → Sort → Named
name_one spell table w sort = name_if (is_some (in_frame w.text table)) spell table w sort

abbrev pub name_words : List (List ℕ) → Table → List Word → Named
name_words spell table [] = record { table = table; spell = spell }
name_words spell table (w ∷ ws) =
    let a = name_one spell table w Parameter in name_words a.spell a.table ws

-- all names of a block
abbrev pub name_all : List (List ℕ) → Table → List Defining → Named
name_all spell table [] = record { table = table; spell = spell }
name_all spell table (d ∷ ds) = let a = name_one spell table d.0 d.1 in name_all a.spell a.table ds

pub record Joined : Type 0 where
  pub own : Table
  pub params : Table
  pub spell : List (List ℕ)

abbrev pub name_patterns : (at : ℕ) → List (List ℕ) → (own params : Table) → List PatTree → Joined
name_patterns at spell own params [] = record { own = own; params = params; spell = spell }
name_patterns at spell own params (p ∷ ps) =
    let a = name_one spell own p.on (Channel (length p.params) at) in
    let b = name_words a.spell params p.params in
    name_patterns at b.spell a.table b.table ps

pub record Walked : Type 0 where
  pub tables : List Table
  pub spell : List (List ℕ)

pub record Level : Type 0 where
  pub own : Table
  pub tables : List Table
  pub spell : List (List ℕ)

abbrev mutual
  pub walk : List (List ℕ) → Process → Walked
  walk spell Zero = record { tables = []; spell = spell }
  walk spell (Msg on args) = record { tables = []; spell = spell }
  walk spell (Go b c) = record { tables = []; spell = spell }
  walk spell (Fail b c) = record { tables = []; spell = spell }
  walk spell Halt = record { tables = []; spell = spell }
  walk spell (Add l r c) = record { tables = []; spell = spell }
  walk spell (Same l r c d) = record { tables = []; spell = spell }
  walk spell (Group ps) = walk_all spell ps
  walk spell (Def ds ps) =
      let a = walk_level 0 1 spell [] ds in
      let b = walk_all a.spell ps in
      record { tables = a.own ∷ (a.tables ++ b.tables); spell = b.spell }

  pub walk_all : List (List ℕ) → Processes → Walked
  walk_all spell none = record { tables = []; spell = spell }
  walk_all spell (one_more p ps) =
      let a = walk spell p in
      let b = walk_all a.spell ps in
      record { tables = a.tables ++ b.tables; spell = b.spell }

  pub walk_one : (at place : ℕ) → List (List ℕ) → Table → Definition → Level
  walk_one at place spell own (Rule pats body) =
      let j = name_patterns at spell own [] pats in
      let b = walk_all j.spell body in
      record { own = j.own; tables = j.params ∷ b.tables; spell = b.spell }
  walk_one at place spell own (Place o a ds body) =
      let n = name_one spell own a Location in
      let l = walk_level place (place + 1) n.spell n.table ds in
      let b = walk_all l.spell body in
      record { own = l.own; tables = l.tables ++ b.tables; spell = b.spell }

  pub walk_level : (at place : ℕ) → List (List ℕ) → Table → Definitions → Level
  walk_level at place spell own no_definition = record { own = own; tables = []; spell = spell }
  walk_level at place spell own (and_also d ds) =
      let a = walk_one at place spell own d in
      let b = walk_level at (place + places_of d) a.spell a.own ds in
      record { own = b.own; tables = a.tables ++ b.tables; spell = b.spell }

-- the names of the outermost block, and what is named within the sites after them
abbrev pub outermost : List Defining → Named
outermost names = name_all [] [] names

abbrev pub walk_sites : List Defining → List PlaceTree → Level
walk_sites names sites =
    walk_level 0 1 (outermost names).spell (outermost names).table (sites_of sites)
