-- The sorts that a program's names have by declared sorts.
use Rattle.std.specs.Prelude.{ℕ, ◌==◌, List, [], ◌∷◌, ◌++◌, Option, Some, None, cond}
use Rattle.std.specs.Prelude.{slice_get, if◌then◌else◌}
use Rattle.std.specs.Str.{bytes_eq}
use Rattle.chem_model.specs.declared.name.Name.TheVariants as name
use Rattle.chem_model.specs.declared.name.Ref.{Ref}
use Rattle.chem_model.specs.declared.name.Ref.TheVariants.{Binder, Known}
use Rattle.chem_model.specs.declared.name.Pat.{Pat}
use Rattle.chem_model.specs.declared.program.SeenDecl.{SeenDecl}
use Rattle.chem_model.specs.Process.{Process, Msg, Par, Def, Go, Fail, Halt, Processes, none}
use Rattle.chem_model.specs.Process.{one_more, Definition, Rule, Place, Definitions, no_definition}
use Rattle.chem_model.specs.Process.{and_also}
use Rattle.chem_model.specs.ProgramFacts.{ProgramTerms, places}
use Rattle.sort_laws.specs.declared.sorts.SortArg.{SortArg}
use Rattle.sort_laws.specs.declared.sorts.SortArg.TheVariants as arg
use Rattle.sort_laws.specs.declared.sorts.SortDecl.{SortDecl}
use Rattle.sort_laws.specs.declared.sorts.SortUse.{SortUse}
use Rattle.sort_laws.specs.declared.sorts.Sorts.{Sorts}
pub use Rattle.sort_laws.specs.declared.sorts.Entry.{Entry}
use Rattle.sort_laws.specs.Sorted.{Sorting}

-- ---- what is declared

-- the arguments of a defined sort
abbrev pub args_in : Option SortDecl → List SortArg
args_in None = []
args_in (Some d) = d.args

abbrev pub args_of : List SortDecl → ℕ → List SortArg
args_of decls i = args_in (slice_get decls i)

-- the sort that a spelling has by the lines that use sorts, where it has one
abbrev pub used_as : List SortUse → List ℕ → Option SortArg
used_as [] text = None
used_as (u ∷ uses) text =
    if bytes_eq text u.spell then Some (arg.Named u.sort) else used_as uses text

abbrev pub spelled_as : List SortUse → Option (List ℕ) → Option SortArg
spelled_as uses None = None
spelled_as uses (Some text) = used_as uses text

-- the sort of a channel, by its spelling
abbrev pub channel_sort : List SortUse → List (List ℕ) → ℕ → Option SortArg
channel_sort uses spell b = spelled_as uses (slice_get spell b)

abbrev pub declared_as : List SortUse → Option SeenDecl → Option SortArg
declared_as uses None = None
declared_as uses (Some d) = used_as uses d.spell

-- the sort of an observed name, by its spelling
abbrev pub seen_sort : List SortUse → List SeenDecl → ℕ → Option SortArg
seen_sort uses seen i = declared_as uses (slice_get seen i)

-- the sorts that a channel of this sort asks for
abbrev pub asked_by : (ℕ → List SortArg) → Option SortArg → List SortArg
asked_by args None = []
asked_by args (Some arg.Place) = []
asked_by args (Some arg.Num) = []
asked_by args (Some (arg.Named i)) = args i

-- ---- locations and parameters

abbrev pub entries_for : List SortArg → List ℕ → List Entry
entries_for ss [] = []
entries_for [] (b ∷ bs) = record { binder = b; sort = None } ∷ entries_for [] bs
entries_for (s ∷ ss) (b ∷ bs) = record { binder = b; sort = Some s } ∷ entries_for ss bs

-- a location's binder
abbrev pub place_entry : Ref → List Entry
place_entry (Binder b) = record { binder = b; sort = Some arg.Place } ∷ []
place_entry (Known n) = []

-- the sort of an occurrence of a name, by those of binders and of observed names
abbrev pub sort_by : (binder seen : ℕ → Option SortArg) → Ref → Option SortArg
sort_by binder seen (Binder b) = binder b
sort_by binder seen (Known (name.Seen i)) = seen i
sort_by binder seen (Known (name.Place a)) = Some arg.Place
sort_by binder seen (Known (name.Chan s k h)) = None
sort_by binder seen (Known (name.Num n)) = Some arg.Num
sort_by binder seen (Known (name.Op i)) = None

-- Where these are the arguments of defined sorts, and the sorts of channels and of observed names.
module _ (args : ℕ → List SortArg) (channel seen : ℕ → Option SortArg) where
  -- the sort of a pattern's channel
  abbrev pub pattern_sort : Ref → Option SortArg
  pattern_sort r = sort_by channel seen r

  abbrev pub pattern_entries : List Pat → List Entry
  pattern_entries [] = []
  pattern_entries (p ∷ ps) =
      entries_for (asked_by args (pattern_sort p.on)) p.params ++ pattern_entries ps

  -- the locations and the parameters of a term
  abbrev mutual
    pub entries : Process → List Entry
    entries (Msg x vs) = []
    entries (Par ps) = entries_of_all ps
    entries (Def ds p) = entries_of_definitions ds ++ entries p
    entries (Go b k) = []
    entries (Fail a k) = []
    entries Halt = []

    pub entries_of_all : Processes → List Entry
    entries_of_all none = []
    entries_of_all (one_more p ps) = entries p ++ entries_of_all ps

    pub entries_of_definition : Definition → List Entry
    entries_of_definition (Rule ps p) = pattern_entries ps ++ entries p
    entries_of_definition (Place a ds p) = place_entry a ++ (entries_of_definitions ds ++ entries p)

    pub entries_of_definitions : Definitions → List Entry
    entries_of_definitions no_definition = []
    entries_of_definitions (and_also d ds) = entries_of_definition d ++ entries_of_definitions ds

-- the sort of a binder: of a channel where it is neither a location nor a parameter
abbrev pub sort_in : (ℕ → Option SortArg) → List Entry → ℕ → Option SortArg
sort_in channel [] b = channel b
sort_in channel (e ∷ es) b = cond (e.binder == b) e.sort (sort_in channel es b)

-- ---- a program

module _ (sorts : Sorts) (p : ProgramTerms) where
  abbrev pub program_entries : List Entry
  program_entries =
      entries_of_definitions (args_of sorts.decls) (channel_sort sorts.uses p.spell)
      (seen_sort sorts.uses p.seen) (places p.sites)

  abbrev pub binder_sort : ℕ → Option SortArg
  binder_sort = sort_in (channel_sort sorts.uses p.spell) program_entries

  -- the sorts of all names of the program
  abbrev pub sorting : Sorting
  sorting = record {
    args = args_of sorts.decls;
    binder = binder_sort;
    seen = seen_sort sorts.uses p.seen;
  }
