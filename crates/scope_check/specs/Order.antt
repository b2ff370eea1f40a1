-- The first of a set of faults: the least place, and at one place the kind that stands first.
use Rattle.std.specs.Prelude.{◌≡◌, ℕ, ◌<◌, ◌≤◌, ◌⊎◌, Option, Some, None}
use Rattle.join_base.specs.declared.fault.Kind.{Kind}
use Rattle.join_base.specs.declared.fault.Kind.TheVariants.{Lex1, Lex2, Lex3, Grammar1, Grammar2}
use Rattle.join_base.specs.declared.fault.Kind.TheVariants.{Scope1, Scope2, Scope3, Scope4, Scope5}
use Rattle.join_base.specs.declared.fault.Kind.TheVariants.{Scope6, Arity1, Arity2, Arity3, Arity4}
use Rattle.scope_check.specs.declared.fault.Fault.{Fault}

-- the order of the kinds
abbrev pub rank : Kind → ℕ
rank Lex1 = 0
rank Lex2 = 1
rank Lex3 = 2
rank Grammar1 = 3
rank Grammar2 = 4
rank Scope1 = 5
rank Scope2 = 6
rank Scope3 = 7
rank Scope4 = 8
rank Scope5 = 9
rank Scope6 = 10
rank Arity1 = 11
rank Arity2 = 12
rank Arity3 = 13
rank Arity4 = 14

abbrev pub IsSooner : Fault → Fault → Type 0
IsSooner a b = (a.place < b.place) ⊎ ((a.place ≡ b.place) × (rank a.kind ≤ rank b.kind))

-- the set has this first fault, or none
abbrev pub IsFirst : (Fault → Type 0) → Option Fault → Type 0
IsFirst faults None = (f : Fault) → faults f → ⊥
IsFirst faults (Some f) = faults f × ((g : Fault) → faults g → IsSooner f g)
