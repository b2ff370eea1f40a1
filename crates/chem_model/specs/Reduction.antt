-- Reduction: what a solution does. Each case needs its acting location live, so nothing within a
-- dead location reacts, sends or moves.
use Rattle.std.specs.Prelude.{◌≡◌, ℕ, ◌+◌, ◌<◌, ◌≤◌, ◌==◌, List, [], ◌∷◌, ◌++◌, Some, None, true}
use Rattle.std.specs.Prelude.{false, length, slice_get, cond}
use Rattle.chem_model.specs.declared.name.Loc.{Loc}
use Rattle.chem_model.specs.declared.name.Name.{Name}
use Rattle.chem_model.specs.declared.name.Name.TheVariants as name
use Rattle.chem_model.specs.declared.name.Ref.{Ref}
use Rattle.chem_model.specs.declared.name.Ref.TheVariants.{Known}
use Rattle.chem_model.specs.declared.name.Pat.{Pat}
use Rattle.chem_model.specs.Process.{Process, Msg, Go, Fail, Halt, Rule}
use Rattle.chem_model.specs.Bag.{one, bag, ◌⊕◌}
use Rattle.chem_model.specs.Fill.{Naming, fill}
use Rattle.chem_model.specs.Solution.{Solution, Procs, coded_located_process, same_loc, is_there}
use Rattle.chem_model.specs.Solution.{host_of, dead, live, rehosted, marked, at}
use Rattle.chem_model.specs.Heating.{Heats}
use Rattle.chem_model.specs.Operations as op

-- occurrences of known names
abbrev pub all_known : List Name → List Ref
all_known [] = []
all_known (n ∷ ns) = Known n ∷ all_known ns

-- the arguments for the parameters
abbrev pub given : List ℕ → List Name → Naming
given [] ns = []
given (b ∷ bs) [] = []
given (b ∷ bs) (n ∷ ns) = record { binder = b; name = n } ∷ given bs ns

-- the message is on the pattern's channel and has its count, and m gives its arguments to the
-- parameters
pub record Meets (p : Pat) (message : Process) (m : Naming) : Type 0 where
  pub args : List Name
  pub is : message ≡ Msg p.on (all_known args)
  pub count : length p.params ≡ length args
  pub names : m ≡ given p.params args

-- one message for each message pattern
pub data MeetAll : List Pat → List Process → Naming → Type 0 where
  no_pattern : MeetAll [] [] []
  one_pattern : {p : Pat} {q : Process} {m : Naming} {ps : List Pat} {qs : List Process}
      {ms : Naming}
      → Meets p q m → MeetAll ps qs ms → MeetAll (p ∷ ps) (q ∷ qs) (m ++ ms)

-- React: at a live location a rule, and for each of its message patterns one message there. The
-- messages go, and the rule's body comes with the arguments for the parameters; the rule stays
pub record Reacts (s t : Solution) : Type 0 where
  pub loc : Loc
  pub pats : List Pat
  pub body : Process
  pub messages : List Process
  pub names : Naming
  pub rest : Procs
  pub is_live : live s.places loc ≡ true
  pub rule : 0 < s.defs (loc, Rule pats body)
  pub meet : MeetAll pats messages names
  pub there : s.procs ≡ bag coded_located_process (at loc messages) ⊕ rest
  pub after : t ≡ record s { procs = one coded_located_process (loc, fill names body) ⊕ rest }

-- Comm: at a live location a message on a channel whose home is another location of the solution.
-- It moves to its home, live or dead
pub record Communicates (s t : Solution) : Type 0 where
  pub loc : Loc
  pub home : Loc
  pub site : ℕ
  pub k : ℕ
  pub args : List Ref
  pub rest : Procs
  pub is_live : live s.places loc ≡ true
  pub home_there : is_there (s.places home) ≡ true
  pub other : same_loc home loc ≡ false
  pub there : s.procs ≡ one coded_located_process (loc, Msg (Known (name.Chan site k home)) args)
      ⊕ rest
  pub after : t ≡ record s {
    procs = one coded_located_process (home, Msg (Known (name.Chan site k home)) args) ⊕ rest;
  }

-- Out: at a live location a message on an observed name with the declared count. It goes to the
-- trace (this project's own)
pub record Observes (seen : List ℕ) (s t : Solution) : Type 0 where
  pub loc : Loc
  pub on : ℕ
  pub args : List Name
  pub rest : Procs
  pub is_live : live s.places loc ≡ true
  pub count : slice_get seen on ≡ Some (length args)
  pub there : s.procs ≡ one coded_located_process (loc, Msg (Known (name.Seen on)) (all_known args))
      ⊕ rest
  pub after : t ≡ record s { procs = rest; trace = s.trace ++ record { on = on; args = args } ∷ [] }

-- Add: at a live location a message on the operation that adds, with two numbers whose sum is a
-- number, and a name. That name gets the sum
pub record Adds (s t : Solution) : Type 0 where
  pub loc : Loc
  pub left : ℕ
  pub right : ℕ
  pub cont : Name
  pub rest : Procs
  pub is_live : live s.places loc ≡ true
  pub fits : left + right ≤ op.largest
  pub there : s.procs ≡ one coded_located_process (
    loc,
    Msg (Known (name.Op op.add)) (all_known (name.Num left ∷ name.Num right ∷ cont ∷ [])),
  ) ⊕ rest
  pub after : t ≡ record s {
    procs =
        one coded_located_process (loc, Msg (Known cont) (all_known (name.Num (left + right) ∷ [])))
        ⊕ rest;
  }

-- Same: at a live location a message on the operation that compares, with two numbers and two
-- names. The first name gets a message where the numbers are equal, and else the second
pub record Sames (s t : Solution) : Type 0 where
  pub loc : Loc
  pub left : ℕ
  pub right : ℕ
  pub yes : Name
  pub no : Name
  pub rest : Procs
  pub is_live : live s.places loc ≡ true
  pub there : s.procs ≡ one coded_located_process (
    loc,
    Msg (Known (name.Op op.same)) (all_known (name.Num left ∷ name.Num right ∷ yes ∷ no ∷ [])),
  ) ⊕ rest
  pub after : t ≡ record s {
    procs = one coded_located_process (loc, Msg (Known (cond (left == right) yes no)) []) ⊕ rest;
  }

-- the message by which a request goes on
abbrev pub continuation : Ref → Process
continuation k = Msg k []

-- Go: at a live location with a host, a request to go to a live root, which may be the present
-- host. Its host is that root, and the request becomes its continuation
pub record Goes (s t : Solution) : Type 0 where
  pub loc : Loc
  pub host : Loc
  pub target : Loc
  pub cont : Ref
  pub rest : Procs
  pub is_live : live s.places loc ≡ true
  pub hosted : host_of (s.places loc) ≡ Some host
  pub target_live : live s.places target ≡ true
  pub target_root : host_of (s.places target) ≡ None
  pub there : s.procs ≡ one coded_located_process (loc, Go (Known (name.Place target)) cont) ⊕ rest
  pub after : t ≡ record s {
    places = rehosted s.places loc target;
    procs = one coded_located_process (loc, continuation cont) ⊕ rest;
  }

-- Fall, in version 2: at a live location with a host, a request to go to a dead root. Its host is
-- that root, with which it is dead, and the request goes
pub record Falls (version : ℕ) (s t : Solution) : Type 0 where
  pub second : version ≡ 2
  pub loc : Loc
  pub host : Loc
  pub target : Loc
  pub cont : Ref
  pub rest : Procs
  pub is_live : live s.places loc ≡ true
  pub hosted : host_of (s.places loc) ≡ Some host
  pub target_there : is_there (s.places target) ≡ true
  pub target_dead : dead s.places target ≡ true
  pub target_root : host_of (s.places target) ≡ None
  pub there : s.procs ≡ one coded_located_process (loc, Go (Known (name.Place target)) cont) ⊕ rest
  pub after : t ≡ record s { places = rehosted s.places loc target; procs = rest }

-- Halt: at a live location a request to halt. It goes, and the location is marked
pub record Halts (s t : Solution) : Type 0 where
  pub loc : Loc
  pub rest : Procs
  pub is_live : live s.places loc ≡ true
  pub there : s.procs ≡ one coded_located_process (loc, Halt) ⊕ rest
  pub after : t ≡ record s { places = marked s.places loc; procs = rest }

-- Detect: at a live location a request that waits for the failure of a location, which is a dead
-- one of the solution. The request becomes its continuation
pub record Detects (s t : Solution) : Type 0 where
  pub loc : Loc
  pub target : Loc
  pub cont : Ref
  pub rest : Procs
  pub is_live : live s.places loc ≡ true
  pub target_there : is_there (s.places target) ≡ true
  pub target_dead : dead s.places target ≡ true
  pub there : s.procs ≡ one coded_located_process (loc, Fail (Known (name.Place target)) cont)
      ⊕ rest
  pub after : t ≡ record s { procs = one coded_located_process (loc, continuation cont) ⊕ rest }

-- one of the five cases that an event names
pub data Acts (version : ℕ) (s t : Solution) : Type 0 where
  react : Reacts s t → Acts version s t
  go : Goes s t → Acts version s t
  fall : Falls version s t → Acts version s t
  halt : Halts s t → Acts version s t
  detect : Detects s t → Acts version s t

-- one reduction, where these are the program's version and the declared counts of observed names
pub data Reduces (version : ℕ) (seen : List ℕ) (s t : Solution) : Type 0 where
  act : Acts version s t → Reduces version seen s t
  comm : Communicates s t → Reduces version seen s t
  out : Observes seen s t → Reduces version seen s t
  add : Adds s t → Reduces version seen s t
  same : Sames s t → Reduces version seen s t

-- t is reached from s by heating, Comm, Out, Add and Same alone
pub data IsReached (seen : List ℕ) (t : Solution) : Solution → Type 0 where
  stays : IsReached seen t t
  heats : {s u : Solution} → Heats s u → IsReached seen t u → IsReached seen t s
  communicates : {s u : Solution} → Communicates s u → IsReached seen t u → IsReached seen t s
  observes : {s u : Solution} → Observes seen s u → IsReached seen t u → IsReached seen t s
  adds : {s u : Solution} → Adds s u → IsReached seen t u → IsReached seen t s
  compares : {s u : Solution} → Sames s u → IsReached seen t u → IsReached seen t s

-- no heating and no reduction applies
pub record Quiet (version : ℕ) (seen : List ℕ) (s : Solution) : Type 0 where
  pub no_heating : (t : Solution) → Heats s t → ⊥
  pub no_reduction : (t : Solution) → Reduces version seen s t → ⊥
