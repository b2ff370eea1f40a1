-- The sorts of names, and the terms, programs and solutions that keep them.
use Rattle.std.specs.Prelude.{◌≡◌, ℕ, ◌==◌, List, [], ◌∷◌, Option, Some, Bool, true, false}
use Rattle.std.specs.Prelude.{length, slice_get}
use Rattle.chem_model.specs.declared.name.Name.{Name}
use Rattle.chem_model.specs.declared.name.Name.TheVariants as name
use Rattle.chem_model.specs.declared.name.Ref.{Ref}
use Rattle.chem_model.specs.declared.name.Ref.TheVariants.{Binder, Known}
use Rattle.chem_model.specs.declared.name.Pat.{Pat}
use Rattle.chem_model.specs.declared.program.SeenDecl.{SeenDecl}
use Rattle.chem_model.specs.Process.{Process, Msg, Par, Def, Go, Fail, Halt, Processes, none}
use Rattle.chem_model.specs.Process.{one_more, Definition, Rule, Place, Definitions, no_definition}
use Rattle.chem_model.specs.Process.{and_also}
use Rattle.chem_model.specs.ProgramFacts.{ProgramTerms, places}
use Rattle.chem_model.specs.Each.{Each, IsIn}
use Rattle.chem_model.specs.declared.numbered.Named.{Named}
use Rattle.chem_model.specs.declared.numbered.NumberedRule.{NumberedRule}
use Rattle.chem_model.specs.declared.numbered.NumberedAtom.{NumberedAtom}
use Rattle.chem_model.specs.declared.numbered.Numbered.{Numbered}
use Rattle.chem_model.specs.Fill.{Naming}
use Rattle.chem_model.specs.Operations.{add, same}
use Rattle.sort_laws.specs.declared.sorts.SortArg.{SortArg}
use Rattle.sort_laws.specs.declared.sorts.SortArg.TheVariants as arg

-- what the sorts of names are: the sorts of the arguments of each defined sort, and the sort of
-- each binder and of each observed name, where it has one
pub record Sorting : Type 0 where
  pub args : ℕ → List SortArg
  pub binder : ℕ → Option SortArg
  pub seen : ℕ → Option SortArg

-- the name was given to a binder of this sort
pub record IsGivenAs (t : Sorting) (named : Naming) (n : Name) (s : SortArg) : Type 0 where
  pub entry : Named
  pub given : IsIn entry named
  pub name : entry.name ≡ n
  pub sort : t.binder entry.binder ≡ Some s

-- The sort of a name where these names were given: a made channel has the sort of its binder. An
-- operation has none, since it is no value.
abbrev pub HasSort : Sorting → Naming → Name → SortArg → Type 0
HasSort t named (name.Seen i) s = t.seen i ≡ Some s
HasSort t named (name.Place a) s = s ≡ arg.Place
HasSort t named (name.Chan site k h) s = IsGivenAs t named (name.Chan site k h) s
HasSort t named (name.Num n) s = s ≡ arg.Num
HasSort t named (name.Op i) s = ⊥

abbrev pub RefHas : Sorting → Naming → Ref → SortArg → Type 0
RefHas t named (Binder b) s = t.binder b ≡ Some s
RefHas t named (Known n) s = HasSort t named n s

-- each argument has the sort that its place asks for, and there are as many as there are places
abbrev pub Takes : Sorting → Naming → List Ref → List SortArg → Type 0
Takes t named [] [] = Unit {0}
Takes t named [] (s ∷ ss) = ⊥
Takes t named (r ∷ rs) [] = ⊥
Takes t named (r ∷ rs) (s ∷ ss) = RefHas t named r s × Takes t named rs ss

abbrev pub Receives : Sorting → List ℕ → List SortArg → Type 0
Receives t [] [] = Unit {0}
Receives t [] (s ∷ ss) = ⊥
Receives t (b ∷ bs) [] = ⊥
Receives t (b ∷ bs) (s ∷ ss) = (t.binder b ≡ Some s) × Receives t bs ss

-- a channel whose messages have arguments of these sorts
pub record IsChannel (t : Sorting) (named : Naming) (r : Ref) (ss : List SortArg) : Type 0 where
  pub sort : ℕ
  pub has : RefHas t named r (arg.Named sort)
  pub args : t.args sort ≡ ss

-- the arguments, or the parameters, are those that the channel's sort asks for
pub record KeepsArguments (t : Sorting) (named : Naming) (on : Ref) (args : List Ref) : Type 0 where
  pub sorts : List SortArg
  pub channel : IsChannel t named on sorts
  pub takes : Takes t named args sorts

pub record KeepsPattern (t : Sorting) (named : Naming) (p : Pat) : Type 0 where
  pub sorts : List SortArg
  pub channel : IsChannel t named p.on sorts
  pub receives : Receives t p.params sorts

-- two numbers, and a channel for a number
abbrev pub KeepsAdd : Sorting → Naming → List Ref → Type 0
KeepsAdd t named (u ∷ v ∷ k ∷ []) =
    RefHas t named u arg.Num × RefHas t named v arg.Num × IsChannel t named k (arg.Num ∷ [])
KeepsAdd t named vs = ⊥

-- two numbers, and two channels without arguments
abbrev pub KeepsSame : Sorting → Naming → List Ref → Type 0
KeepsSame t named (u ∷ v ∷ k ∷ m ∷ []) =
    RefHas t named u arg.Num × RefHas t named v arg.Num × IsChannel t named k []
    × IsChannel t named m []
KeepsSame t named vs = ⊥

-- by the tests which operation it is
abbrev pub KeepsAs : (is_add is_same : Bool) → Sorting → Naming → List Ref → Type 0
KeepsAs true is_same t named vs = KeepsAdd t named vs
KeepsAs false true t named vs = KeepsSame t named vs
KeepsAs false false t named vs = ⊥

abbrev pub KeepsOperation : Sorting → Naming → ℕ → List Ref → Type 0
KeepsOperation t named op vs = KeepsAs (op == add) (op == same) t named vs

-- a message on a channel, or on an operation
abbrev pub KeepsMessage : Sorting → Naming → Ref → List Ref → Type 0
KeepsMessage t named (Binder b) vs = KeepsArguments t named (Binder b) vs
KeepsMessage t named (Known (name.Seen i)) vs = KeepsArguments t named (Known (name.Seen i)) vs
KeepsMessage t named (Known (name.Place a)) vs = KeepsArguments t named (Known (name.Place a)) vs
KeepsMessage t named (Known (name.Chan s k h)) vs =
    KeepsArguments t named (Known (name.Chan s k h)) vs
KeepsMessage t named (Known (name.Num n)) vs = KeepsArguments t named (Known (name.Num n)) vs
KeepsMessage t named (Known (name.Op i)) vs = KeepsOperation t named i vs

-- a term that keeps the sorts of its names
abbrev mutual
  pub Keeps : Sorting → Naming → Process → Type 0
  Keeps t named (Msg x vs) = KeepsMessage t named x vs
  Keeps t named (Par ps) = KeepsAll t named ps
  Keeps t named (Def ds p) = KeepsDefinitions t named ds × Keeps t named p
  Keeps t named (Go b k) = RefHas t named b arg.Place × IsChannel t named k []
  Keeps t named (Fail a k) = RefHas t named a arg.Place × IsChannel t named k []
  Keeps t named Halt = Unit {0}

  pub KeepsAll : Sorting → Naming → Processes → Type 0
  KeepsAll t named none = Unit {0}
  KeepsAll t named (one_more p ps) = Keeps t named p × KeepsAll t named ps

  pub KeepsDefinition : Sorting → Naming → Definition → Type 0
  KeepsDefinition t named (Rule ps p) = Each (KeepsPattern t named) ps × Keeps t named p
  KeepsDefinition t named (Place a ds p) =
      RefHas t named a arg.Place × KeepsDefinitions t named ds × Keeps t named p

  pub KeepsDefinitions : Sorting → Naming → Definitions → Type 0
  KeepsDefinitions t named no_definition = Unit {0}
  KeepsDefinitions t named (and_also d ds) =
      KeepsDefinition t named d × KeepsDefinitions t named ds

abbrev pub IsDefined : SortArg → Type 0
IsDefined arg.Place = ⊥
IsDefined arg.Num = ⊥
IsDefined (arg.Named j) = Unit {0}

-- A program that keeps the sorts: each of its terms does, an observed name has a defined sort where
-- it has one, and its declared count is that of this sort. No name of it was given yet.
pub record IsSorted (t : Sorting) (p : ProgramTerms) : Type 0 where
  pub observed : (i : ℕ) (s : SortArg) → t.seen i ≡ Some s → IsDefined s
  pub counts : (i j : ℕ) (d : SeenDecl) → slice_get p.seen i ≡ Some d
      → t.seen i ≡ Some (arg.Named j) → d.count ≡ length (t.args j)
  pub terms : KeepsDefinitions t [] (places p.sites)

-- ---- solutions

-- the patterns and the body of a rule keep the sorts
abbrev pub KeepsRule : Sorting → Naming → NumberedRule → Type 0
KeepsRule t named r = Each (KeepsPattern t named) r.pats × Keeps t named r.body

-- A location may be given to a binder of the sort of locations, a channel to one of a defined sort.
abbrev pub MayBeGiven : Sorting → ℕ → Name → Type 0
MayBeGiven t b (name.Seen i) = ⊥
MayBeGiven t b (name.Place a) = t.binder b ≡ Some arg.Place
MayBeGiven t b (name.Chan s k h) = (j : ℕ) × (t.binder b ≡ Some (arg.Named j))
MayBeGiven t b (name.Num n) = ⊥
MayBeGiven t b (name.Op i) = ⊥

-- A solution that is well sorted: each message, each request and each rule keeps the sorts, and
-- each name was given to a binder of its sort.
abbrev pub IsWellSorted : Sorting → Numbered → Type 0
IsWellSorted t n =
    Each (λ (a : NumberedAtom). Keeps t n.named a.term) n.atoms
    × Each (KeepsRule t n.named) n.rules
    × Each (λ (e : Named). MayBeGiven t e.binder e.name) n.named
