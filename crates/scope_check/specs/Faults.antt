-- The set of faults of scope and arity of a tree.
use Rattle.std.specs.Prelude.{◌≡◌, ◌≢◌, ℕ, ◌≤◌, ◌⊎◌, List, [], ◌∷◌}
use Rattle.std.specs.Prelude.{◌++◌, Option, Some, None, length}
use Rattle.join_base.specs.declared.fault.Kind.{Kind}
use Rattle.join_base.specs.declared.fault.Kind.TheVariants.{Scope1, Scope2, Scope3, Scope4, Scope5}
use Rattle.join_base.specs.declared.fault.Kind.TheVariants.{Scope6, Arity1, Arity2, Arity3, Arity4}
use Rattle.join_parse.specs.declared.word.Word.{Word}
use Rattle.join_parse.specs.declared.word.PatTree.{PatTree}
use Rattle.join_parse.specs.declared.tree.PlaceTree.{PlaceTree}
use Rattle.join_parse.specs.Grammar.{TreeOfText}
use Rattle.chem_model.specs.Each.{IsIn}
use Rattle.chem_model.specs.ProgramFacts.{most_sites}
use Rattle.scope_names.specs.declared.scope.Sort.{Sort}
use Rattle.scope_names.specs.declared.scope.Sort.TheVariants.{Channel, Location}
use Rattle.scope_names.specs.declared.scope.Sort.TheVariants.{Observed, Parameter}
use Rattle.scope_check.specs.declared.fault.Fault.{Fault}
use Rattle.scope_check.specs.Blocks.{Defining, params, first_in, Resolved, resolve}
use Rattle.scope_check.specs.Uses.{Manner, called, headed, sent, Use, uses_of}
use Rattle.scope_check.specs.Uses.{Declared, a_block, a_join, declared_of}

-- A known channel or observed name is called with another count, or a known location is called. A
-- parameter has neither kind nor count.
abbrev pub WrongCall : ℕ → Sort → Kind → Type 0
WrongCall n (Channel m at) k = (k ≡ Arity1) × (m ≢ n)
WrongCall n (Observed m i) k = (k ≡ Arity1) × (m ≢ n)
WrongCall n Location k = k ≡ Arity3
WrongCall n Parameter k = ⊥

-- A known channel or observed name stands as the first name of `go` or `fail`.
abbrev pub WrongHead : Sort → Kind → Type 0
WrongHead (Channel m at) k = k ≡ Arity4
WrongHead (Observed m i) k = k ≡ Arity4
WrongHead Location k = ⊥
WrongHead Parameter k = ⊥

abbrev pub WrongAs : Manner → Sort → Kind → Type 0
WrongAs (called n) sort k = WrongCall n sort k
WrongAs headed sort k = WrongHead sort k
WrongAs sent sort k = ⊥

-- what is wrong with a use, by what its spelling is resolved to: an unknown name, or a known one
-- that may not stand so
abbrev pub WrongBy : Manner → Option Resolved → Kind → Type 0
WrongBy m None k = k ≡ Scope1
WrongBy m (Some r) k = WrongAs m r.sort k

pub record WrongUse (u : Use) (f : Fault) : Type 0 where
  pub here : f.place ≡ u.word.place
  pub wrong : WrongBy u.manner (resolve u.around u.word.text) f.kind

-- A later pattern of a channel has another count or stands at another location than the first one,
-- or not both occurrences are channels of patterns.
abbrev pub WrongAfter : (first later : Sort) → Kind → Type 0
WrongAfter (Channel m at) (Channel n here) k =
    ((k ≡ Arity2) × (m ≢ n)) ⊎ ((k ≡ Scope2) × (at ≢ here))
WrongAfter first later k = k ≡ Scope3

-- a defining occurrence that isn't the first one of its spelling in its block
pub record WrongDefining (names : List Defining) (f : Fault) : Type 0 where
  pub before : List Defining
  pub later : Defining
  pub after : List Defining
  pub all : names ≡ before ++ later ∷ after
  pub first : Sort
  pub defined : first_in later.0.text before ≡ Some first
  pub here : f.place ≡ later.0.place
  pub wrong : WrongAfter first later.1 f.kind

-- a word with the spelling of an earlier one
pub record Repeated (kind : Kind) (words : List Word) (f : Fault) : Type 0 where
  pub before : List Word
  pub later : Word
  pub after : List Word
  pub all : words ≡ before ++ later ∷ after
  pub earlier : Word
  pub stands_before : IsIn earlier before
  pub same : later.text ≡ earlier.text
  pub here : f.place ≡ later.place
  pub wrong : f.kind ≡ kind

-- the channels of a join pattern
abbrev pub ons : List PatTree → List Word
ons [] = []
ons (p ∷ ps) = p.on ∷ ons ps

abbrev pub WrongDeclared : Declared → Fault → Type 0
WrongDeclared (a_block names) f = WrongDefining names f
WrongDeclared (a_join pats) f = Repeated Scope5 (ons pats) f ⊎ Repeated Scope4 (params pats) f

-- a site above the limit
pub record WrongSite (limit : ℕ) (sites : List PlaceTree) (f : Fault) : Type 0 where
  pub before : List PlaceTree
  pub site : PlaceTree
  pub after : List PlaceTree
  pub all : sites ≡ before ++ site ∷ after
  pub above : limit ≤ length before
  pub here : f.place ≡ site.opener
  pub wrong : f.kind ≡ Scope6

-- the faults of a tree: how many sites there may be is the matter of its version
pub data IsFault (t : TreeOfText) (f : Fault) : Type 0 where
  of_use : (u : Use) → IsIn u (uses_of t) → WrongUse u f → IsFault t f
  of_declared : (d : Declared) → IsIn d (declared_of t) → WrongDeclared d f → IsFault t f
  of_site : WrongSite (most_sites t.version) t.sites f → IsFault t f
