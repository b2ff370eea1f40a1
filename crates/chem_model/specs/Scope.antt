-- What every term of a program keeps: its patterns, its blocks, and the scope of its binders.
use Rattle.std.specs.Prelude.{◌≡◌, ◌≢◌, ℕ, ◌≤◌, ◌<◌, List, ◌++◌, length, true, false}
use Rattle.std.specs.Prelude.{Option, Some, None}
use Rattle.std.specs.List.{AllPairs}
use Rattle.chem_model.specs.declared.name.Name.{Name}
use Rattle.chem_model.specs.declared.name.Ref.{Ref}
use Rattle.chem_model.specs.declared.name.Ref.TheVariants.{Binder, Known}
use Rattle.chem_model.specs.declared.name.Pat.{Pat}
use Rattle.chem_model.specs.Each.{Each}
use Rattle.chem_model.specs.Process.{Process, Msg, Par, Def, Go, Fail, Halt, Processes, none}
use Rattle.chem_model.specs.Process.{one_more, Definition, Rule, Place, Definitions, no_definition}
use Rattle.chem_model.specs.Process.{and_also}
use Rattle.chem_model.specs.Operations.{op_count}
use Rattle.chem_model.specs.Binders.{block, places_of, patterns_of, params_of, is_among, times}

abbrev pub IsBinder : Ref → Type 0
IsBinder (Binder b) = Unit {0}
IsBinder (Known n) = ⊥

-- a join pattern isn't empty, is linear, and each of its message patterns has at most 255
-- parameters
pub record IsPattern (ps : List Pat) : Type 0 where
  pub some : 0 < length ps
  pub channels : AllPairs (λ p q. p.on ≢ q.on) ps
  pub params : (b : ℕ) → times (params_of ps) b ≤ 1
  pub short : Each (λ p. length p.params ≤ 255) ps

-- definitions that are rules alone
abbrev pub AreRules : Definitions → Type 0
AreRules no_definition = Unit {0}
AreRules (and_also (Rule ps p) ds) = AreRules ds
AreRules (and_also (Place a es p) ds) = ⊥

-- rules, and places whose definitions are rules
abbrev pub AreRulesAndPlaces : Definitions → Type 0
AreRulesAndPlaces no_definition = Unit {0}
AreRulesAndPlaces (and_also (Rule ps p) ds) = AreRulesAndPlaces ds
AreRulesAndPlaces (and_also (Place a es p) ds) = AreRules es × AreRulesAndPlaces ds

-- the name of each place, at any depth, is a binder
abbrev mutual
  pub AreNamed : Definitions → Type 0
  AreNamed no_definition = Unit {0}
  AreNamed (and_also d ds) = IsNamed d × AreNamed ds

  pub IsNamed : Definition → Type 0
  IsNamed (Rule ps p) = Unit {0}
  IsNamed (Place a ds p) = IsBinder a × AreNamed ds

-- two patterns of one channel stand at one location and have one count
abbrev pub Agree : (Option Ref × Pat) → (Option Ref × Pat) → Type 0
Agree x y = x.1.on ≡ y.1.on → (x.0 ≡ y.0) × (length x.1.params ≡ length y.1.params)

-- a block defines binders: channels, each at one location with one count, and locations, each once
pub record IsBlock (ds : Definitions) : Type 0 where
  pub channels : Each (λ x. IsBinder x.1.on) (patterns_of None ds)
  pub places : AreNamed ds
  pub apart : Each (λ x. (b : ℕ) → x.1.on ≡ Binder b → is_among (places_of ds) b ≡ false)
      (patterns_of None ds)
  pub one_place : (b : ℕ) → times (places_of ds) b ≤ 1
  pub agree : AllPairs Agree (patterns_of None ds)

-- where a name's occurrence stands: as the name of a message with so many arguments, as an
-- argument, or as the target or continuation of a request
pub data Position : Type 0 where
  names_message : ℕ → Position
  is_argument : Position
  in_request : Position

-- an operation stands as the name of a message with its count of arguments, and nowhere else
abbrev pub IsOperation : Position → ℕ → Type 0
IsOperation (names_message count) i = op_count i ≡ Some count
IsOperation is_argument i = ⊥
IsOperation in_request i = ⊥

-- a name's occurrence is a binder in scope, or one of the known names that may stand there
abbrev pub IsInScope : (Name → Type 0) → List ℕ → Ref → Type 0
IsInScope known scope (Binder b) = is_among scope b ≡ true
IsInScope known scope (Known n) = known n

-- a term whose known names may stand where they do, and whose binders in scope are these: the scope
-- of a `def` is its definitions and its process, that of a received name the rule's body
abbrev mutual
  pub IsTerm : (Position → Name → Type 0) → List ℕ → Process → Type 0
  IsTerm known scope (Msg x vs) =
      IsInScope (known (names_message (length vs))) scope x
      × Each (IsInScope (known is_argument) scope) vs × (length vs ≤ 255)
  IsTerm known scope (Par ps) = AreTerms known scope ps
  IsTerm known scope (Def ds p) =
      IsBlock ds × AreRulesAndPlaces ds × AreDefinitions known (block ds ++ scope) ds
      × IsTerm known (block ds ++ scope) p
  IsTerm known scope (Go a k) =
      IsInScope (known in_request) scope a × IsInScope (known in_request) scope k
  IsTerm known scope (Fail a k) =
      IsInScope (known in_request) scope a × IsInScope (known in_request) scope k
  IsTerm known scope Halt = Unit {0}

  pub AreTerms : (Position → Name → Type 0) → List ℕ → Processes → Type 0
  AreTerms known scope none = Unit {0}
  AreTerms known scope (one_more p ps) = IsTerm known scope p × AreTerms known scope ps

  pub IsDefinition : (Position → Name → Type 0) → List ℕ → Definition → Type 0
  IsDefinition known scope (Rule ps p) = IsPattern ps × IsTerm known (params_of ps ++ scope) p
  IsDefinition known scope (Place a ds p) = AreDefinitions known scope ds × IsTerm known scope p

  pub AreDefinitions : (Position → Name → Type 0) → List ℕ → Definitions → Type 0
  AreDefinitions known scope no_definition = Unit {0}
  AreDefinitions known scope (and_also d ds) =
      IsDefinition known scope d × AreDefinitions known scope ds
