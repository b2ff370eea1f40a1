-- The text of a trace: a line an observable, in order, and then how the run ended.
use Rattle.std.specs.Prelude.{ℕ, ◌+◌, List, [], ◌∷◌, ◌++◌, Bool, true, false, ◌&&◌, not, cond}
use Rattle.std.specs.Prelude.{nat_lt, Option, Some, None, codes, decimal, slice_get, slice_index_or}
use Rattle.chem_model.specs.declared.name.Name.{Name}
use Rattle.chem_model.specs.declared.name.Name.TheVariants as name
use Rattle.chem_model.specs.declared.event.Out.{Out}
use Rattle.chem_model.specs.declared.program.SeenDecl.{SeenDecl}
use Rattle.chem_model.specs.ProgramFacts.{ProgramTerms}
use Rattle.chem_model.specs.Fill.{Naming}
use Rattle.chem_model.specs.Numbered.{same_name, binder_in}
use Rattle.trace_text.specs.declared.text.Ending.{Ending}
use Rattle.trace_text.specs.declared.text.Ending.TheVariants.{Quiescent, Stopped}

-- ---- spellings

abbrev pub declared_spelling : Option SeenDecl → List ℕ
declared_spelling None = []
declared_spelling (Some d) = d.spell

-- the spelling of the observed name of a declaration
abbrev pub seen_spelling : List SeenDecl → ℕ → List ℕ
seen_spelling seen i = declared_spelling (slice_get seen i)

-- the spelling of the binder for which a name was made
abbrev pub binder_spelling : ProgramTerms → Option ℕ → List ℕ
binder_spelling p None = []
binder_spelling p (Some b) = slice_index_or p.spell b []

-- ---- ranks: observed and site-level names, and numbers, have none

abbrev pub is_inner : ProgramTerms → Option ℕ → Bool
is_inner p None = false
is_inner p (Some b) = not (nat_lt b p.tops)

-- a name that was made, and for no site-level binder
abbrev pub is_ranked : ProgramTerms → Naming → Name → Bool
is_ranked p named (name.Seen i) = false
is_ranked p named (name.Place a) = is_inner p (binder_in named (name.Place a))
is_ranked p named (name.Chan s k h) = is_inner p (binder_in named (name.Chan s k h))
is_ranked p named (name.Num n) = false
is_ranked p named (name.Op i) = false

-- whether a name is among these
abbrev pub is_among : List Name → Name → Bool
is_among [] x = false
is_among (y ∷ ys) x = cond (same_name y x) true (is_among ys x)

-- the ranked names in order of first appearance, after these
abbrev pub ranked_after : ProgramTerms → Naming → List Name → List Name → List Name
ranked_after p named before [] = before
ranked_after p named before (x ∷ xs) =
    ranked_after p named
    (cond (is_ranked p named x && not (is_among before x)) (before ++ x ∷ []) before) xs

-- the arguments of a trace, in order and from left to right
abbrev pub arguments : List Out → List Name
arguments [] = []
arguments (o ∷ outs) = o.args ++ arguments outs

abbrev pub ranked : ProgramTerms → Naming → List Out → List Name
ranked p named outs = ranked_after p named [] (arguments outs)

-- how many members come before the first that is this name
abbrev pub place_in : Name → List Name → ℕ
place_in x [] = 0
place_in x (y ∷ ys) = cond (same_name y x) 0 (place_in x ys + 1)

-- ---- names and lines

-- a name that was made: its spelling, and behind it `'` and its rank, from 1, where it has one
abbrev pub made_text : ProgramTerms → Naming → List Name → Name → List ℕ
made_text p named ranks x =
    binder_spelling p (binder_in named x)
    ++ cond (is_ranked p named x) (codes "'" ++ decimal (place_in x ranks + 1)) []

abbrev pub name_text : ProgramTerms → Naming → List Name → Name → List ℕ
name_text p named ranks (name.Seen i) = seen_spelling p.seen i
name_text p named ranks (name.Place a) = made_text p named ranks (name.Place a)
name_text p named ranks (name.Chan s k h) = made_text p named ranks (name.Chan s k h)
name_text p named ranks (name.Num n) = decimal n
name_text p named ranks (name.Op i) = []

-- names, joined by a comma and a space
abbrev pub names_text : ProgramTerms → Naming → List Name → List Name → List ℕ
names_text p named ranks [] = []
names_text p named ranks (x ∷ []) = name_text p named ranks x
names_text p named ranks (x ∷ y ∷ more) =
    name_text p named ranks x ++ codes ", " ++ names_text p named ranks (y ∷ more)

-- the line of an observable
abbrev pub out_text : ProgramTerms → Naming → List Name → Out → List ℕ
out_text p named ranks o =
    seen_spelling p.seen o.on ++ codes "(" ++ names_text p named ranks o.args ++ codes ")\n"

abbrev pub outs_text : ProgramTerms → Naming → List Name → List Out → List ℕ
outs_text p named ranks [] = []
outs_text p named ranks (o ∷ outs) = out_text p named ranks o ++ outs_text p named ranks outs

abbrev pub ending_text : Ending → List ℕ
ending_text Quiescent = codes "quiescent\n"
ending_text Stopped = codes "stopped\n"

-- the text of a trace, where these names were given in the run
abbrev pub trace_text : ProgramTerms → Naming → List Out → Ending → List ℕ
trace_text p named outs ending = outs_text p named (ranked p named outs) outs ++ ending_text ending
