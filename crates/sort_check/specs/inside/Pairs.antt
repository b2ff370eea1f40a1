-- What is asked of the words of a tree, read beside the tree's program.
use Rattle.std.specs.Prelude.{ℕ, ◌+◌, List, [], ◌∷◌, ◌++◌, Option, Some, None, length, slice_get}
use Rattle.join_parse.specs.declared.word.Word.{Word}
use Rattle.join_parse.specs.declared.word.Arg.{Arg}
use Rattle.join_parse.specs.declared.word.PatTree.{PatTree}
use Rattle.join_parse.specs.declared.tree.PlaceTree.{PlaceTree}
use Rattle.join_parse.specs.Source as s
use Rattle.join_parse.specs.Source.{processes, definitions}
use Rattle.chem_model.specs.declared.name.Ref.{Ref}
use Rattle.chem_model.specs.declared.name.Pat.{Pat}
use Rattle.chem_model.specs.declared.program.SiteTerm.{SiteTerm}
use Rattle.chem_model.specs.Process as t
use Rattle.sort_laws.specs.declared.sorts.SortArg.{SortArg}
use Rattle.sort_laws.specs.declared.sorts.SortArg.TheVariants as arg
use Rattle.sort_laws.specs.declared.sorts.SortDecl.{SortDecl}
use Rattle.sort_laws.specs.Sorted.{Sorting}
use Rattle.sort_laws.specs.Table.{args_of, asked_by}
use Rattle.sort_laws.specs.Asks.{defines, calls, sends, continues, ref_sort}
use Rattle.sort_check.specs.Asked.{Asked, at, asked_at, arg_place}

-- ---- the sorts of names, as lists have them

abbrev pub flat : Option (Option SortArg) → Option SortArg
flat None = None
flat (Some o) = o

abbrev pub sort_at : List (Option SortArg) → ℕ → Option SortArg
sort_at list i = flat (slice_get list i)

-- the sorts by declarations, by a list for binders, and by one for observed names
abbrev pub by_lists : List SortDecl → (binders seen : List (Option SortArg)) → Sorting
by_lists decls binders seen =
    record { args = args_of decls; binder = sort_at binders; seen = sort_at seen }

-- ---- a tree beside a program

module _ (r : Sorting) where
  abbrev pub pair_argument : SortArg → Arg → Ref → Asked
  pair_argument s a v = asked_at (arg_place a) (sends s) (ref_sort r v)

  abbrev pub pair_arguments : List SortArg → List Arg → List Ref → List Asked
  pair_arguments [] us vs = []
  pair_arguments (s ∷ ss) [] vs = []
  pair_arguments (s ∷ ss) (a ∷ us) [] = []
  pair_arguments (s ∷ ss) (a ∷ us) (v ∷ vs) = pair_argument s a v ∷ pair_arguments ss us vs

  abbrev pub pair_message : Word → List Arg → Ref → List Ref → List Asked
  pair_message on us x vs =
      at on (calls (length us)) (ref_sort r x)
      ∷ pair_arguments (asked_by r.args (ref_sort r x)) us vs

  -- an argument or a continuation of an operation, beside the occurrence that is found for it
  abbrev pub pair_number : Arg → Option Ref → List Asked
  pair_number a None = []
  pair_number a (Some v) = pair_argument arg.Num a v ∷ []

  abbrev pub pair_continuation : List SortArg → Word → Option Ref → List Asked
  pair_continuation ss c None = []
  pair_continuation ss c (Some v) = at c (continues ss) (ref_sort r v) ∷ []

  abbrev pub pair_operands : Arg → Arg → List Ref → List Asked
  pair_operands a b vs = pair_number a (slice_get vs 0) ++ pair_number b (slice_get vs 1)

  abbrev pub pair_add : Arg → Arg → Word → List Ref → List Asked
  pair_add a b c vs =
      pair_operands a b vs ++ pair_continuation (arg.Num ∷ []) c (slice_get vs 2)

  abbrev pub pair_same : Arg → Arg → Word → Word → List Ref → List Asked
  pair_same a b c d vs =
      (pair_operands a b vs ++ pair_continuation [] c (slice_get vs 2))
      ++ pair_continuation [] d (slice_get vs 3)

  abbrev pub pair_patterns : List PatTree → List Pat → List Asked
  pair_patterns [] qs = []
  pair_patterns (p ∷ ps) [] = []
  pair_patterns (p ∷ ps) (q ∷ qs) =
      at p.on (defines (length p.params)) (ref_sort r q.on) ∷ pair_patterns ps qs

  abbrev pub pair_request : Word → Word → Ref → Ref → List Asked
  pair_request b c x k =
      at b (sends arg.Place) (ref_sort r x) ∷ at c (continues []) (ref_sort r k) ∷ []

  abbrev mutual
    pub pair : s.Process → t.Process → List Asked
    pair (s.Msg on ws) (t.Msg x vs) = pair_message on ws x vs
    pair (s.Go b c) (t.Go x k) = pair_request b c x k
    pair (s.Fail b c) (t.Fail x k) = pair_request b c x k
    pair (s.Add a b c) (t.Msg x vs) = pair_add a b c vs
    pair (s.Same a b c d) (t.Msg x vs) = pair_same a b c d vs
    pair (s.Group ps) q = pair_body ps q
    pair (s.Def ds ps) (t.Def es q) = pair_level ds es ++ pair_body ps q
    pair _ _ = []

    -- A list of one process stands for that process, and any other for the composition of its
    -- members.
    pub pair_body : s.Processes → t.Process → List Asked
    pair_body (s.one_more p s.none) q = pair p q
    pair_body (s.one_more p (s.one_more u ps)) (t.Par (t.one_more q qs)) =
        pair p q ++ pair_all (s.one_more u ps) qs
    pair_body _ _ = []

    pub pair_all : s.Processes → t.Processes → List Asked
    pair_all s.none qs = []
    pair_all (s.one_more p ps) t.none = []
    pair_all (s.one_more p ps) (t.one_more q qs) = pair p q ++ pair_all ps qs

    pub pair_one : s.Definition → t.Definition → List Asked
    pair_one (s.Rule pats body) (t.Rule qs q) = pair_patterns pats qs ++ pair_body body q
    pair_one (s.Place o a ds body) (t.Place x es q) = pair_level ds es ++ pair_body body q
    pair_one _ _ = []

    pub pair_level : s.Definitions → t.Definitions → List Asked
    pair_level s.no_definition es = []
    pair_level (s.and_also d ds) t.no_definition = []
    pair_level (s.and_also d ds) (t.and_also e es) = pair_one d e ++ pair_level ds es

  abbrev pub pair_sites : List PlaceTree → List SiteTerm → List Asked
  pair_sites [] ys = []
  pair_sites (x ∷ xs) [] = []
  pair_sites (x ∷ xs) (y ∷ ys) =
      (pair_level (definitions x.defs) (t.definitions y.defs)
      ++ pair_body (processes x.body) y.body)
      ++ pair_sites xs ys
