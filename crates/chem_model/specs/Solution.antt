-- The state of the chemical machine: located solutions, and a trace.
use Rattle.std.specs.Prelude.{List, [], ◌∷◌, ◌==◌, Bool, true, false, ◌&&◌, ◌||◌, Option, Some}
use Rattle.std.specs.Prelude.{None, cond, not}
use Rattle.std.specs.Coded.{Coded, coded×}
use Rattle.chem_model.specs.declared.name.Loc.{Loc}
use Rattle.chem_model.specs.declared.name.Name.{Name}
use Rattle.chem_model.specs.declared.event.Out.{Out}
use Rattle.chem_model.specs.contracts.name.Loc as loc
use Rattle.chem_model.specs.contracts.name.Name as name
use Rattle.chem_model.specs.Process.{Process, Definition}
use Rattle.chem_model.specs.ProcessCode.{coded_process, coded_definition}
use Rattle.chem_model.specs.Bag.{Bag}

-- where a location stands: its host, or none at a root, and whether it is marked
pub record Standing : Type 0 where
  pub host : Option Loc
  pub marked : Bool

-- a map from locations: none where a location isn't one of the solution
abbrev pub Places : Type 0
Places = Loc → Option Standing

-- multisets of definitions and of processes, each with the location at which it stands
abbrev pub Defs : Type 0
Defs = Bag (Loc × Definition)

abbrev pub Procs : Type 0
Procs = Bag (Loc × Process)

-- a solution: its locations, the definitions and the processes at them, and the observables so far
-- (the trace is this project's own)
pub record Solution : Type 0 where
  pub places : Places
  pub defs : Defs
  pub procs : Procs
  pub trace : List Out

abbrev pub coded_located_definition : Coded (Loc × Definition)
coded_located_definition = coded× loc.the_row.coded coded_definition

abbrev pub coded_located_process : Coded (Loc × Process)
coded_located_process = coded× loc.the_row.coded coded_process

abbrev pub coded_name : Coded Name
coded_name = name.the_row.coded

-- ---- what the map of locations says

abbrev pub same_loc : Loc → Loc → Bool
same_loc a b = (a.site == b.site) && (a.k == b.k)

abbrev pub is_there : Option Standing → Bool
is_there None = false
is_there (Some s) = true

abbrev pub is_marked : Option Standing → Bool
is_marked None = false
is_marked (Some s) = s.marked

abbrev pub host_of : Option Standing → Option Loc
host_of None = None
host_of (Some s) = s.host

abbrev pub or_itself : Option Loc → Loc → Loc
or_itself None l = l
or_itself (Some h) l = h

-- the root of a location: its host, or itself where it has none
abbrev pub root : Places → Loc → Loc
root pl l = or_itself (host_of (pl l)) l

-- a is within b: it is b, or b is its host
abbrev pub within : Places → Loc → Loc → Bool
within pl a b = same_loc a b || same_loc (root pl a) b

-- within a marked location
abbrev pub dead : Places → Loc → Bool
dead pl l = is_marked (pl l) || is_marked (pl (root pl l))

-- a location that isn't dead
abbrev pub live : Places → Loc → Bool
live pl l = is_there (pl l) && not (dead pl l)

-- each member of a list, at a location
abbrev pub at : {X : Type 0} → Loc → List X → List (Loc × X)
at l [] = []
at l (x ∷ xs) = (l, x) ∷ at l xs

-- ---- maps changed at one location

-- the map with one more location, unmarked
abbrev pub born : Places → Loc → Option Loc → Places
born pl a h l = cond (same_loc a l) (Some (record { host = h; marked = false })) (pl l)

abbrev pub with_host : Loc → Option Standing → Option Standing
with_host h None = None
with_host h (Some s) = Some (record s { host = Some h })

abbrev pub with_mark : Option Standing → Option Standing
with_mark None = None
with_mark (Some s) = Some (record s { marked = true })

-- the map with another host of one location
abbrev pub rehosted : Places → Loc → Loc → Places
rehosted pl a h l = cond (same_loc a l) (with_host h (pl l)) (pl l)

-- the map with one location marked
abbrev pub marked : Places → Loc → Places
marked pl a l = cond (same_loc a l) (with_mark (pl l)) (pl l)
