-- Layouts: which binder each place of an environment is for, read off the source alone. A list of
-- binders `named` that a definition is given are those of the block that have a name already.
use Rattle.std.specs.Prelude.{ℕ, ◌+◌, List, [], ◌∷◌, ◌++◌, Option, Some, None, cond, length}
use Rattle.chem_model.specs.declared.name.Ref.{Ref}
use Rattle.chem_model.specs.declared.name.Ref.TheVariants.{Binder, Known}
use Rattle.chem_model.specs.declared.name.Pat.{Pat}
use Rattle.chem_model.specs.Process.{Process, Msg, Par, Def, Go, Fail, Halt}
use Rattle.chem_model.specs.Process.{Processes, none, one_more}
use Rattle.chem_model.specs.Process.{Definition, Rule, Place, Definitions, no_definition, and_also}
use Rattle.chem_model.specs.Process as term
use Rattle.chem_model.specs.Binders.{binder_of, params_of, is_among}
use Rattle.chem_model.specs.ProgramFacts.{ProgramTerms}
use Rattle.chem_model.specs.declared.program.SiteTerm.{SiteTerm}

-- ---- the channels of a level in the order of naming: each that has no name yet, once

abbrev pub new_ref : List ℕ → Ref → List ℕ
new_ref named (Binder b) = cond (is_among named b) [] (b ∷ [])
new_ref named (Known n) = []

abbrev pub new_in : List ℕ → List Pat → List ℕ
new_in named [] = []
new_in named (p ∷ ps) = let xs = new_ref named p.on in xs ++ new_in (named ++ xs) ps

abbrev pub new_channels : List ℕ → Definitions → List ℕ
new_channels named no_definition = []
new_channels named (and_also (Rule ps p) ds) =
    let xs = new_in named ps in
    xs ++ new_channels (named ++ xs) ds
new_channels named (and_also (Place x es p) ds) = new_channels named ds

-- and the argument count of each: that of its first pattern
abbrev pub count_ref : List ℕ → Pat → Ref → List ℕ
count_ref named p (Binder b) = cond (is_among named b) [] (length p.params ∷ [])
count_ref named p (Known n) = []

abbrev pub counts_in : List ℕ → List Pat → List ℕ
counts_in named [] = []
counts_in named (p ∷ ps) = count_ref named p p.on ++ counts_in (named ++ new_ref named p.on) ps

abbrev pub new_counts : List ℕ → Definitions → List ℕ
new_counts named no_definition = []
new_counts named (and_also (Rule ps p) ds) =
    counts_in named ps ++ new_counts (named ++ new_in named ps) ds
new_counts named (and_also (Place x es p) ds) = new_counts named ds

-- ---- the names of a block in the order of naming: its channels, then each place and its channels

-- a place and its channels
abbrev pub place_order : List ℕ → Ref → Definitions → List ℕ
place_order named x es = binder_of x ++ new_channels (named ++ binder_of x) es

-- what a definition names once the block's channels have their names
abbrev pub place_in : List ℕ → Definition → List ℕ
place_in named (Rule ps p) = []
place_in named (Place x es p) = place_order named x es

abbrev pub places_order : List ℕ → Definitions → List ℕ
places_order named no_definition = []
places_order named (and_also d ds) =
    let xs = place_in named d in
    xs ++ places_order (named ++ xs) ds

abbrev pub order : Definitions → List ℕ
order ds = let xs = new_channels [] ds in xs ++ places_order xs ds

-- ---- what is counted

-- the rules of a level
abbrev pub rules_in : Definitions → ℕ
rules_in no_definition = 0
rules_in (and_also (Rule ps p) ds) = rules_in ds + 1
rules_in (and_also (Place x es p) ds) = rules_in ds

-- the locations that pouring a process opens: those of the rules' bodies within it don't count
abbrev mutual
  pub births_in : Process → ℕ
  births_in (Msg x vs) = 0
  births_in (Par ps) = births_in_all ps
  births_in (Def ds p) = births_in_defs ds + births_in p
  births_in (Go b k) = 0
  births_in (Fail b k) = 0
  births_in Halt = 0

  pub births_in_all : Processes → ℕ
  births_in_all none = 0
  births_in_all (one_more p ps) = births_in p + births_in_all ps

  pub births_in_defs : Definitions → ℕ
  births_in_defs no_definition = 0
  births_in_defs (and_also d ds) = births_in_def d + births_in_defs ds

  pub births_in_def : Definition → ℕ
  births_in_def (Rule ps p) = 0
  births_in_def (Place x es p) = births_in p + 1

-- the messages that pouring a process pours, one on an observed name too: again not those of the
-- rules' bodies within it
abbrev mutual
  pub sends_in : Process → ℕ
  sends_in (Msg x vs) = 1
  sends_in (Par ps) = sends_in_all ps
  sends_in (Def ds p) = sends_in_defs ds + sends_in p
  sends_in (Go b k) = 0
  sends_in (Fail b k) = 0
  sends_in Halt = 0

  pub sends_in_all : Processes → ℕ
  sends_in_all none = 0
  sends_in_all (one_more p ps) = sends_in p + sends_in_all ps

  pub sends_in_defs : Definitions → ℕ
  sends_in_defs no_definition = 0
  sends_in_defs (and_also d ds) = sends_in_def d + sends_in_defs ds

  pub sends_in_def : Definition → ℕ
  sends_in_def (Rule ps p) = 0
  sends_in_def (Place x es p) = sends_in p

-- ---- the levels, in the order of their opening token

-- the source of a level: the layout of its groups' environments, its channels and their argument
-- counts, its definitions, and the process where they are a place's
pub record LevelTerm : Type 0 where
  pub layout : List ℕ
  pub channels : List ℕ
  pub counts : List ℕ
  pub defs : Definitions
  pub process : Option Process

-- the level of the definitions ds under a layout
abbrev pub level_term : List ℕ → List ℕ → Definitions → Option Process → LevelTerm
level_term layout named ds process = record {
  layout = layout;
  channels = new_channels named ds;
  counts = new_counts named ds;
  defs = ds;
  process = process;
}

abbrev mutual
  -- the levels that a process opens under a layout
  pub levels_of : List ℕ → Process → List LevelTerm
  levels_of y (Msg x vs) = []
  levels_of y (Par ps) = levels_of_all y ps
  levels_of y (Def ds p) =
      let z = y ++ order ds in
      level_term z [] ds None ∷ (levels_of_defs z (new_channels [] ds) ds ++ levels_of z p)
  levels_of y (Go b k) = []
  levels_of y (Fail b k) = []
  levels_of y Halt = []

  pub levels_of_all : List ℕ → Processes → List LevelTerm
  levels_of_all y none = []
  levels_of_all y (one_more p ps) = levels_of y p ++ levels_of_all y ps

  -- those within the definitions of a block
  pub levels_of_defs : List ℕ → List ℕ → Definitions → List LevelTerm
  levels_of_defs z named no_definition = []
  levels_of_defs z named (and_also d ds) =
      levels_of_def z named d ++ levels_of_defs z (named ++ place_in named d) ds

  pub levels_of_def : List ℕ → List ℕ → Definition → List LevelTerm
  levels_of_def z named (Rule ps p) = levels_of (z ++ params_of ps) p
  levels_of_def z named (Place x es p) =
      level_term z (named ++ binder_of x) es (Some p)
      ∷ (levels_of_defs z (named ++ place_order named x es) es ++ levels_of z p)

-- site-level names are known names: the environment of a site's groups is empty
abbrev pub levels_of_site : SiteTerm → List LevelTerm
levels_of_site t =
    let ds = term.definitions t.defs in
    level_term [] [] ds None ∷ (levels_of_defs [] (new_channels [] ds) ds ++ levels_of [] t.body)

abbrev pub levels_of_sites : List SiteTerm → List LevelTerm
levels_of_sites [] = []
levels_of_sites (t ∷ ts) = levels_of_site t ++ levels_of_sites ts

abbrev pub levels_of_program : ProgramTerms → List LevelTerm
levels_of_program p = levels_of_sites p.sites

-- the rules of all these levels
abbrev pub all_rules : List LevelTerm → ℕ
all_rules [] = 0
all_rules (t ∷ ts) = rules_in t.defs + all_rules ts
