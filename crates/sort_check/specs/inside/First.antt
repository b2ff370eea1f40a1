-- What is wrong with the sort of a name, computed, and the first of the faults of a list.
use Rattle.std.specs.Prelude.{ℕ, ◌==◌, ◌||◌, ◌&&◌, nat_lt, Bool, true, false, List, [], ◌∷◌}
use Rattle.std.specs.Prelude.{Option, Some, None, length, if◌then◌else◌, fold}
use Rattle.sort_laws.specs.declared.sorts.SortArg.{SortArg}
use Rattle.sort_laws.specs.declared.sorts.SortArg.TheVariants as arg
use Rattle.sort_laws.specs.Asks.{Demand, defines, calls, sends, continues}
use Rattle.sort_check.specs.declared.fault.Found.{Found}
use Rattle.sort_check.specs.Asked.{Asked}

abbrev pub same_sort : SortArg → SortArg → Bool
same_sort arg.Place arg.Place = true
same_sort arg.Num arg.Num = true
same_sort (arg.Named i) (arg.Named j) = i == j
same_sort _ _ = false

abbrev pub same_sorts : List SortArg → List SortArg → Bool
same_sorts [] [] = true
same_sorts [] (s ∷ ss) = false
same_sorts (r ∷ rs) [] = false
same_sorts (r ∷ rs) (s ∷ ss) = same_sort r s && same_sorts rs ss

-- one of these numbers where the test fails
abbrev pub unless : Bool → ℕ → Option ℕ
unless right k = if right then None else Some k

abbrev pub wrong_argument : SortArg → Option SortArg → Option ℕ
wrong_argument s None = None
wrong_argument s (Some r) = unless (same_sort r s) 8

module _ (args : ℕ → List SortArg) where
  abbrev pub wrong_defining : ℕ → Option SortArg → Option ℕ
  wrong_defining count None = Some 4
  wrong_defining count (Some arg.Place) = Some 4
  wrong_defining count (Some arg.Num) = Some 4
  wrong_defining count (Some (arg.Named i)) = unless (length (args i) == count) 5

  abbrev pub wrong_call : ℕ → Option SortArg → Option ℕ
  wrong_call count None = None
  wrong_call count (Some arg.Place) = Some 6
  wrong_call count (Some arg.Num) = Some 6
  wrong_call count (Some (arg.Named i)) = unless (length (args i) == count) 7

  abbrev pub wrong_continuation : List SortArg → Option SortArg → Option ℕ
  wrong_continuation ss None = None
  wrong_continuation ss (Some arg.Place) = Some 8
  wrong_continuation ss (Some arg.Num) = Some 8
  wrong_continuation ss (Some (arg.Named i)) = unless (same_sorts (args i) ss) 8

  abbrev pub wrong_as : Demand → Option SortArg → Option ℕ
  wrong_as (defines count) o = wrong_defining count o
  wrong_as (calls count) o = wrong_call count o
  wrong_as (sends s) o = wrong_argument s o
  wrong_as (continues ss) o = wrong_continuation ss o

-- the sooner of what is kept and one more
abbrev pub sooner : Option Found → Found → Option Found
sooner None g = Some g
sooner (Some f) g =
    if nat_lt g.place f.place || (g.place == f.place && nat_lt g.kind f.kind) then Some g
    else Some f

abbrev pub noted : Option Found → ℕ → Option ℕ → Option Found
noted o place None = o
noted o place (Some kind) = sooner o (record { kind = kind; place = place })

abbrev pub noted_of : (ℕ → List SortArg) → Option Found → Asked → Option Found
noted_of args o a = noted o a.place (wrong_as args a.demand a.sort)

abbrev pub first_of : (ℕ → List SortArg) → Option Found → List Asked → Option Found
first_of args o asked = fold (noted_of args) o asked
