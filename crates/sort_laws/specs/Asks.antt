-- What is asked of the sorts of a program's names, and what is wrong with an answer.
use Rattle.std.specs.Prelude.{◌≡◌, ◌≢◌, ℕ, ◌+◌, ◌==◌, List, [], ◌∷◌, ◌++◌, Option, Some, None}
use Rattle.std.specs.Prelude.{length, cond}
use Rattle.chem_model.specs.declared.name.Name.TheVariants as name
use Rattle.chem_model.specs.declared.name.Ref.{Ref}
use Rattle.chem_model.specs.declared.name.Ref.TheVariants.{Binder, Known}
use Rattle.chem_model.specs.declared.name.Pat.{Pat}
use Rattle.chem_model.specs.declared.program.SeenDecl.{SeenDecl}
use Rattle.chem_model.specs.Process.{Process, Msg, Par, Def, Go, Fail, Halt, Processes, none}
use Rattle.chem_model.specs.Process.{one_more, Definition, Rule, Place, Definitions, no_definition}
use Rattle.chem_model.specs.Process.{and_also}
use Rattle.chem_model.specs.ProgramFacts.{ProgramTerms, places}
use Rattle.chem_model.specs.Each.{Each}
use Rattle.chem_model.specs.Operations.{add, same}
use Rattle.sort_laws.specs.declared.sorts.SortArg.{SortArg}
use Rattle.sort_laws.specs.declared.sorts.SortArg.TheVariants as arg
use Rattle.sort_laws.specs.declared.sorts.Sorts.{Sorts}
use Rattle.sort_laws.specs.Sorted.{Sorting}
use Rattle.sort_laws.specs.Table.{asked_by, sort_by, sorting}

pub data Demand : Type 0 where
  -- of a channel's pattern, and of an observed name: a defined sort with this count
  defines : (count : ℕ) → Demand
  -- of a message's name: a defined sort with this count
  calls : (count : ℕ) → Demand
  -- of an argument: this sort
  sends : SortArg → Demand
  -- of a continuation: a defined sort with these arguments
  continues : List SortArg → Demand

-- what is asked of a name, and the sort that it has, where it has one
pub record Ask : Type 0 where
  pub demand : Demand
  pub sort : Option SortArg

-- What is wrong, as a number. Where the sort is missing, that is a fault where the name is defined,
-- and nowhere else. (The sort of a channel and of an observed name is missing or a defined one.)
module _ (args : ℕ → List SortArg) where
  abbrev pub WrongDefining : ℕ → Option SortArg → ℕ → Type 0
  WrongDefining count None k = k ≡ 4
  WrongDefining count (Some arg.Place) k = k ≡ 4
  WrongDefining count (Some arg.Num) k = k ≡ 4
  WrongDefining count (Some (arg.Named i)) k = (k ≡ 5) × (length (args i) ≢ count)

  abbrev pub WrongCall : ℕ → Option SortArg → ℕ → Type 0
  WrongCall count None k = ⊥
  WrongCall count (Some arg.Place) k = k ≡ 6
  WrongCall count (Some arg.Num) k = k ≡ 6
  WrongCall count (Some (arg.Named i)) k = (k ≡ 7) × (length (args i) ≢ count)

  abbrev pub WrongArgument : SortArg → Option SortArg → ℕ → Type 0
  WrongArgument s None k = ⊥
  WrongArgument s (Some r) k = (k ≡ 8) × (r ≢ s)

  abbrev pub WrongContinuation : List SortArg → Option SortArg → ℕ → Type 0
  WrongContinuation ss None k = ⊥
  WrongContinuation ss (Some arg.Place) k = k ≡ 8
  WrongContinuation ss (Some arg.Num) k = k ≡ 8
  WrongContinuation ss (Some (arg.Named i)) k = (k ≡ 8) × (args i ≢ ss)

  abbrev pub IsWrongAs : Demand → Option SortArg → ℕ → Type 0
  IsWrongAs (defines count) o k = WrongDefining count o k
  IsWrongAs (calls count) o k = WrongCall count o k
  IsWrongAs (sends s) o k = WrongArgument s o k
  IsWrongAs (continues ss) o k = WrongContinuation ss o k

-- what is asked of the arguments of the operation that adds, of the one that compares, and of any
abbrev pub add_demands : List Demand
add_demands = sends arg.Num ∷ sends arg.Num ∷ continues (arg.Num ∷ []) ∷ []

abbrev pub same_demands : List Demand
same_demands = sends arg.Num ∷ sends arg.Num ∷ continues [] ∷ continues [] ∷ []

abbrev pub operation_demands : ℕ → List Demand
operation_demands op = cond (op == add) add_demands (cond (op == same) same_demands [])

abbrev pub ask : Demand → Option SortArg → Ask
ask demand sort = record { demand = demand; sort = sort }

-- ---- what is asked of the names of a term

abbrev pub ref_sort : Sorting → Ref → Option SortArg
ref_sort t r = sort_by t.binder t.seen r

module _ (t : Sorting) where
  -- each argument has the sort that its place asks for
  abbrev pub argument_asks : List SortArg → List Ref → List Ask
  argument_asks ss [] = []
  argument_asks [] (r ∷ rs) = []
  argument_asks (s ∷ ss) (r ∷ rs) = ask (sends s) (ref_sort t r) ∷ argument_asks ss rs

  -- each argument is as this is asked of it
  abbrev pub demand_asks : List Demand → List Ref → List Ask
  demand_asks ds [] = []
  demand_asks [] (r ∷ rs) = []
  demand_asks (d ∷ ds) (r ∷ rs) = ask d (ref_sort t r) ∷ demand_asks ds rs

  -- of a message on a channel: its name, and its arguments
  abbrev pub channel_asks : Ref → List Ref → List Ask
  channel_asks x vs =
      ask (calls (length vs)) (ref_sort t x)
      ∷ argument_asks (asked_by t.args (ref_sort t x)) vs

  abbrev pub message_asks : Ref → List Ref → List Ask
  message_asks (Binder b) vs = channel_asks (Binder b) vs
  message_asks (Known (name.Seen i)) vs = channel_asks (Known (name.Seen i)) vs
  message_asks (Known (name.Place a)) vs = channel_asks (Known (name.Place a)) vs
  message_asks (Known (name.Chan s k h)) vs = channel_asks (Known (name.Chan s k h)) vs
  message_asks (Known (name.Num n)) vs = channel_asks (Known (name.Num n)) vs
  message_asks (Known (name.Op i)) vs = demand_asks (operation_demands i) vs

  abbrev pub pattern_asks : List Pat → List Ask
  pattern_asks [] = []
  pattern_asks (p ∷ ps) = ask (defines (length p.params)) (ref_sort t p.on) ∷ pattern_asks ps

  -- the target of `go` and `fail` is a location, and they go on by a message without arguments
  abbrev pub request_asks : Ref → Ref → List Ask
  request_asks b k =
      ask (sends arg.Place) (ref_sort t b) ∷ ask (continues []) (ref_sort t k) ∷ []

  abbrev mutual
    pub asks : Process → List Ask
    asks (Msg x vs) = message_asks x vs
    asks (Par ps) = asks_of_all ps
    asks (Def ds p) = asks_of_definitions ds ++ asks p
    asks (Go b k) = request_asks b k
    asks (Fail a k) = request_asks a k
    asks Halt = []

    pub asks_of_all : Processes → List Ask
    asks_of_all none = []
    asks_of_all (one_more p ps) = asks p ++ asks_of_all ps

    pub asks_of_definition : Definition → List Ask
    asks_of_definition (Rule ps p) = pattern_asks ps ++ asks p
    asks_of_definition (Place a ds p) = asks_of_definitions ds ++ asks p

    pub asks_of_definitions : Definitions → List Ask
    asks_of_definitions no_definition = []
    asks_of_definitions (and_also d ds) = asks_of_definition d ++ asks_of_definitions ds

  -- of observed names, from this number on
  abbrev pub declaration_asks : ℕ → List SeenDecl → List Ask
  declaration_asks i [] = []
  declaration_asks i (d ∷ ds) = ask (defines d.count) (t.seen i) ∷ declaration_asks (i + 1) ds

-- the answer is right
abbrev pub IsRight : Sorting → Ask → Type 0
IsRight t a = (k : ℕ) → IsWrongAs t.args a.demand a.sort k → ⊥

-- all that is asked of a program's names
abbrev pub program_asks : Sorting → ProgramTerms → List Ask
program_asks t p = declaration_asks t 0 p.seen ++ asks_of_definitions t (places p.sites)

-- nothing is wrong by the sorts that are declared
abbrev pub Passes : Sorts → ProgramTerms → Type 0
Passes sorts p = Each (IsRight (sorting sorts p)) (program_asks (sorting sorts p) p)
