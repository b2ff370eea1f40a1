-- The uses of words in a tree with the scopes around each, its blocks, and its join patterns.
use Rattle.std.specs.Prelude.{ℕ, ◌+◌, List, [], ◌∷◌, ◌++◌, length}
use Rattle.join_parse.specs.declared.word.Word.{Word}
use Rattle.join_parse.specs.declared.word.Arg.{Arg}
use Rattle.join_parse.specs.declared.word.Arg.TheVariants as arg
use Rattle.join_parse.specs.declared.word.PatTree.{PatTree}
use Rattle.join_parse.specs.Source.{Process, Zero, Msg, Go, Fail, Halt, Add, Same, Group, Def}
use Rattle.join_parse.specs.Source.{Processes, none, one_more, Definition, Rule}
use Rattle.join_parse.specs.Source.{Place, Definitions, no_definition, and_also}
use Rattle.join_parse.specs.Grammar.{TreeOfText}
use Rattle.scope_check.specs.Blocks.{Defining, params, parameters, block, sites_of, outermost}
use Rattle.scope_check.specs.Blocks.{Scope, open_at, scopes_in, scopes_in_def, scopes_in_defs}

-- a word as a message's name with this many arguments, as the first name of `go` or `fail`, or as
-- an argument
pub data Manner : Type 0 where
  called : (given : ℕ) → Manner
  headed : Manner
  sent : Manner

-- a use, and the scopes around it, the innermost first
pub record Use : Type 0 where
  pub manner : Manner
  pub word : Word
  pub around : List Scope

abbrev pub used : Manner → Word → List Scope → Use
used m w env = record { manner = m; word = w; around = env }

-- an argument that is a word is used, and a number is not
abbrev pub sent_as : List Scope → Arg → List Use
sent_as env (arg.Word w) = used sent w env ∷ []
sent_as env (arg.Num value place) = []

abbrev pub all_sent : List Scope → List Arg → List Use
all_sent env [] = []
all_sent env (a ∷ vs) = sent_as env a ++ all_sent env vs

-- The second name of `go` and `fail`, and the last two names of `same`, are used as a message's
-- name with no arguments, and the last name of `add` as one with one argument.
-- Under these scopes, the next scope that is opened having number k.
abbrev mutual
  pub uses : List Scope → ℕ → Process → List Use
  uses env k Zero = []
  uses env k (Msg on args) = used (called (length args)) on env ∷ all_sent env args
  uses env k (Go b c) = used headed b env ∷ used (called 0) c env ∷ []
  uses env k (Fail b c) = used headed b env ∷ used (called 0) c env ∷ []
  uses env k Halt = []
  uses env k (Add l r c) = sent_as env l ++ (sent_as env r ++ used (called 1) c env ∷ [])
  uses env k (Same l r c d) =
      sent_as env l ++ (sent_as env r ++ used (called 0) c env ∷ used (called 0) d env ∷ [])
  uses env k (Group ps) = all_uses env k ps
  uses env k (Def ds ps) =
      level_uses (open_at k (block ds) env) (k + 1) ds
      ++ all_uses (open_at k (block ds) env) (k + 1 + scopes_in_defs ds) ps

  pub all_uses : List Scope → ℕ → Processes → List Use
  all_uses env k none = []
  all_uses env k (one_more p ps) = uses env k p ++ all_uses env (k + scopes_in p) ps

  pub definition_uses : List Scope → ℕ → Definition → List Use
  definition_uses env k (Rule pats body) =
      all_uses (open_at k (parameters (params pats)) env) (k + 1) body
  definition_uses env k (Place o a ds body) =
      level_uses env k ds ++ all_uses env (k + scopes_in_defs ds) body

  pub level_uses : List Scope → ℕ → Definitions → List Use
  level_uses env k no_definition = []
  level_uses env k (and_also d ds) =
      definition_uses env k d ++ level_uses env (k + scopes_in_def d) ds

abbrev pub uses_of : TreeOfText → List Use
uses_of t = level_uses (open_at 0 (outermost t) []) 1 (sites_of t.sites)

-- what is defined: a block, or the names of a join pattern
pub data Declared : Type 0 where
  a_block : List Defining → Declared
  a_join : List PatTree → Declared

abbrev mutual
  pub declared : Process → List Declared
  declared Zero = []
  declared (Msg on args) = []
  declared (Go b c) = []
  declared (Fail b c) = []
  declared Halt = []
  declared (Add l r c) = []
  declared (Same l r c d) = []
  declared (Group ps) = all_declared ps
  declared (Def ds ps) = a_block (block ds) ∷ (level_declared ds ++ all_declared ps)

  pub all_declared : Processes → List Declared
  all_declared none = []
  all_declared (one_more p ps) = declared p ++ all_declared ps

  -- of a block that is declared with all its definitions
  pub definition_declared : Definition → List Declared
  definition_declared (Rule pats body) = a_join pats ∷ all_declared body
  definition_declared (Place o a ds body) = level_declared ds ++ all_declared body

  pub level_declared : Definitions → List Declared
  level_declared no_definition = []
  level_declared (and_also d ds) = definition_declared d ++ level_declared ds

abbrev pub declared_of : TreeOfText → List Declared
declared_of t = a_block (outermost t) ∷ level_declared (sites_of t.sites)
