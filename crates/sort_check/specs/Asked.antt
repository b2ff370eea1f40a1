-- What is asked of the sorts of the words of a tree.
use Rattle.std.specs.Prelude.{ℕ, ◌+◌, List, [], ◌∷◌, ◌++◌, Option, length}
use Rattle.join_parse.specs.declared.word.Word.{Word}
use Rattle.join_parse.specs.declared.word.Arg.{Arg}
use Rattle.join_parse.specs.declared.word.Arg.TheVariants as written
use Rattle.join_parse.specs.declared.word.PatTree.{PatTree}
use Rattle.join_parse.specs.declared.word.SeenTree.{SeenTree}
use Rattle.join_parse.specs.Source.{Process, Zero, Msg, Go, Fail, Halt, Add, Same, Group, Def}
use Rattle.join_parse.specs.Source.{Processes, none, one_more, Definition, Rule, Place, Definitions}
use Rattle.join_parse.specs.Source.{no_definition, and_also}
use Rattle.join_parse.specs.Grammar.{TreeOfText}
use Rattle.chem_model.specs.declared.name.Ref.TheVariants as ref
use Rattle.scope_check.specs.Blocks.{block, params, parameters, sites_of, outermost, Scope}
use Rattle.scope_check.specs.Blocks.{open_at, scopes_in, scopes_in_def, scopes_in_defs}
use Rattle.scope_check.specs.Numbers.{Binder, binder, binders, index_of}
use Rattle.scope_check.specs.Stands.{ref_of, arg_of}
use Rattle.sort_laws.specs.declared.sorts.SortArg.{SortArg}
use Rattle.sort_laws.specs.declared.sorts.SortArg.TheVariants as arg
use Rattle.sort_laws.specs.Sorted.{Sorting}
use Rattle.sort_laws.specs.Table.{asked_by}
use Rattle.sort_laws.specs.Asks.{Demand, defines, calls, sends, continues, ref_sort}

-- a place, what is asked there of a word, and the sort that the word has, where it has one
pub record Asked : Type 0 where
  pub place : ℕ
  pub demand : Demand
  pub sort : Option SortArg

abbrev pub asked_at : ℕ → Demand → Option SortArg → Asked
asked_at place demand sort = record { place = place; demand = demand; sort = sort }

abbrev pub at : Word → Demand → Option SortArg → Asked
at w demand sort = asked_at w.place demand sort

-- the place of an argument
abbrev pub arg_place : Arg → ℕ
arg_place (written.Word w) = w.place
arg_place (written.Num value place) = place

-- Where these are the sorts of names, and the numbers of binders.
module _ (t : Sorting) (number : Binder → ℕ) where
  -- the sort of what a used word stands for
  abbrev pub word_sort : List Scope → Word → Option SortArg
  word_sort env w = ref_sort t (ref_of number env w)

  -- the sort of what is defined by a word
  abbrev pub own_sort : ℕ → Word → Option SortArg
  own_sort own w = ref_sort t (ref.Binder (number (binder own w)))

  -- an argument has this sort
  abbrev pub argument : List Scope → SortArg → Arg → Asked
  argument env s a = asked_at (arg_place a) (sends s) (ref_sort t (arg_of number env a))

  -- each argument has the sort that its place asks for
  abbrev pub arguments : List Scope → List SortArg → List Arg → List Asked
  arguments env ss [] = []
  arguments env [] (a ∷ vs) = []
  arguments env (s ∷ ss) (a ∷ vs) = argument env s a ∷ arguments env ss vs

  -- what goes on by a message with arguments of these sorts
  abbrev pub continuation : List Scope → List SortArg → Word → Asked
  continuation env ss c = at c (continues ss) (word_sort env c)

  abbrev pub patterns : ℕ → List PatTree → List Asked
  patterns own [] = []
  patterns own (p ∷ ps) =
      at p.on (defines (length p.params)) (own_sort own p.on) ∷ patterns own ps

  -- the target of `go` and `fail` is a location, and they go on by a message without arguments
  abbrev pub request : List Scope → Word → Word → List Asked
  request env b c = at b (sends arg.Place) (word_sort env b) ∷ continuation env [] c ∷ []

  -- Under these scopes, the next scope that is opened having number k; `own` is the scope of the
  -- block whose definitions these are.
  abbrev mutual
    pub asked : List Scope → ℕ → Process → List Asked
    asked env k Zero = []
    asked env k (Msg on args) =
        at on (calls (length args)) (word_sort env on)
        ∷ arguments env (asked_by t.args (word_sort env on)) args
    asked env k (Go b c) = request env b c
    asked env k (Fail b c) = request env b c
    asked env k Halt = []
    asked env k (Add l r c) =
        argument env arg.Num l ∷ argument env arg.Num r ∷ continuation env (arg.Num ∷ []) c ∷ []
    asked env k (Same l r c d) =
        argument env arg.Num l ∷ argument env arg.Num r ∷ continuation env [] c
        ∷ continuation env [] d ∷ []
    asked env k (Group ps) = asked_of_all env k ps
    asked env k (Def ds ps) =
        asked_of_level k (open_at k (block ds) env) (k + 1) ds
        ++ asked_of_all (open_at k (block ds) env) (k + 1 + scopes_in_defs ds) ps

    pub asked_of_all : List Scope → ℕ → Processes → List Asked
    asked_of_all env k none = []
    asked_of_all env k (one_more p ps) = asked env k p ++ asked_of_all env (k + scopes_in p) ps

    pub asked_of_definition : ℕ → List Scope → ℕ → Definition → List Asked
    asked_of_definition own env k (Rule pats body) =
        patterns own pats
        ++ asked_of_all (open_at k (parameters (params pats)) env) (k + 1) body
    asked_of_definition own env k (Place o a ds body) =
        asked_of_level own env k ds ++ asked_of_all env (k + scopes_in_defs ds) body

    pub asked_of_level : ℕ → List Scope → ℕ → Definitions → List Asked
    asked_of_level own env k no_definition = []
    asked_of_level own env k (and_also d ds) =
        asked_of_definition own env k d ++ asked_of_level own env (k + scopes_in_def d) ds

-- of observed names, from this number on
abbrev pub asked_of_seen : Sorting → ℕ → List SeenTree → List Asked
asked_of_seen t i [] = []
asked_of_seen t i (x ∷ xs) = at x.name (defines x.count) (t.seen i) ∷ asked_of_seen t (i + 1) xs

-- all that is asked of the words of a tree, where its program's names have these sorts
abbrev pub asked_of : Sorting → TreeOfText → List Asked
asked_of t tree =
    asked_of_seen t 0 tree.seen
    ++ asked_of_level t (index_of (binders tree)) 0 (open_at 0 (outermost tree) []) 1
    (sites_of tree.sites)
