-- A program, and the facts that its type keeps.
use Rattle.std.specs.Prelude.{◌≡◌, ℕ, ◌+◌, ◌≤◌, ◌<◌, ◌↔◌, ◌⊎◌, List, [], ◌∷◌, length, true}
use Rattle.std.specs.Prelude.{◌==◌, cond}
use Rattle.chem_model.specs.declared.name.Name.{Name}
use Rattle.chem_model.specs.declared.name.Name.TheVariants as name
use Rattle.chem_model.specs.declared.name.Ref.TheVariants.{Binder}
use Rattle.chem_model.specs.declared.program.SeenDecl.{SeenDecl}
use Rattle.chem_model.specs.declared.program.SiteTerm.{SiteTerm}
use Rattle.chem_model.specs.Each.{Each}
use Rattle.chem_model.specs.Process.{Place, Definitions, no_definition, and_also, definitions}
use Rattle.chem_model.specs.Binders.{block, once, is_among, bound_in_definitions, definition_nodes}
use Rattle.chem_model.specs.Scope.{IsBlock, AreRulesAndPlaces, AreDefinitions, Position}
use Rattle.chem_model.specs.Scope.{names_message, is_argument, in_request, IsOperation}

-- the version of the text, declarations of observed names, sites, the number of site-level binders,
-- and the spelling of each binder
pub record ProgramTerms : Type 0 where
  pub version : ℕ
  pub seen : List SeenDecl
  pub sites : List SiteTerm
  pub tops : ℕ
  pub spell : List (List ℕ)

-- the sites as the one definition that a program stands for: each is a place with its definitions
-- and its process
abbrev pub places : List SiteTerm → Definitions
places [] = no_definition
places (s ∷ sites) = and_also (Place (Binder s.name) (definitions s.defs) s.body) (places sites)

-- a number stands as a message's argument alone
abbrev pub IsLiteral : Position → Type 0
IsLiteral (names_message count) = ⊥
IsLiteral is_argument = Unit {0}
IsLiteral in_request = ⊥

-- an observed name that is declared; and in version 2 a number, or an operation, where it may stand
abbrev pub IsDeclared : ℕ → ℕ → Position → Name → Type 0
IsDeclared version count p (name.Seen i) = i < count
IsDeclared version count p (name.Place a) = ⊥
IsDeclared version count p (name.Chan s k h) = ⊥
IsDeclared version count p (name.Num n) = (version ≡ 2) × IsLiteral p
IsDeclared version count p (name.Op i) = (version ≡ 2) × IsOperation p i

-- how many sites a program of a version may have
abbrev pub most_sites : ℕ → ℕ
most_sites version = cond (version == 2) 256 64

-- how often a binder is bound in a program: by the sites, by a `def`, or as a parameter
abbrev pub bound : ProgramTerms → ℕ → ℕ
bound p b = once (block (places p.sites)) b + bound_in_definitions (places p.sites) b

pub record IsProgram (p : ProgramTerms) : Type 0 where
  -- the version is 1 or 2
  pub version : (p.version ≡ 1) ⊎ (p.version ≡ 2)
  -- there are 1 to 64 sites, in version 2 up to 256, and the terms have at most 1,048,576 nodes
  pub some_site : 1 ≤ length p.sites
  pub few_sites : length p.sites ≤ most_sites p.version
  pub small : definition_nodes (places p.sites) ≤ 1048576
  -- each binder is spelled and is bound once, and those that the sites define are exactly the first
  pub spelled : (b : ℕ) → 0 < bound p b → b < length p.spell
  pub bound_once : (b : ℕ) → bound p b ≤ 1
  pub site_level : (b : ℕ) → (b < p.tops) ↔ (is_among (block (places p.sites)) b ≡ true)
  -- the sites are one block of rules and places of rules
  pub one_block : IsBlock (places p.sites)
  pub levels : Each (λ s. AreRulesAndPlaces (definitions s.defs)) p.sites
  -- patterns, blocks within and scopes are right, and each known name may stand where it does
  pub terms : AreDefinitions (IsDeclared p.version (length p.seen)) (block (places p.sites))
      (places p.sites)
  pub counts : Each (λ d. d.count ≤ 255) p.seen
