-- The binders of a tree, in the order of their numbers.
use Rattle.std.specs.Prelude.{ℕ, ◌+◌, ◌==◌, ◌&&◌, Bool, List, [], ◌∷◌, ◌++◌, if◌then◌else◌}
use Rattle.std.specs.List.{list_any}
use Rattle.std.specs.Str.{bytes_eq}
use Rattle.join_parse.specs.declared.word.Word.{Word}
use Rattle.join_parse.specs.declared.word.PatTree.{PatTree}
use Rattle.join_parse.specs.Source.{Process, Zero, Msg, Go, Fail, Halt, Add, Same, Group, Def}
use Rattle.join_parse.specs.Source.{Processes, none, one_more, Definition, Rule}
use Rattle.join_parse.specs.Source.{Place, Definitions, no_definition, and_also}
use Rattle.join_parse.specs.Grammar.{TreeOfText}
use Rattle.scope_check.specs.Blocks.{Defining, block, sites_of, observed_from}
use Rattle.scope_check.specs.Blocks.{scopes_in, scopes_in_def, scopes_in_defs}

-- a binder is a spelling in a scope
pub record Binder : Type 0 where
  pub scope : ℕ
  pub text : List ℕ

abbrev pub binder : ℕ → Word → Binder
binder k w = record { scope = k; text = w.text }

abbrev pub in_params : ℕ → List Word → List Binder
in_params k [] = []
in_params k (w ∷ ws) = binder k w ∷ in_params k ws

-- a join pattern in its block, with its parameters
abbrev pub in_patterns : (own k : ℕ) → List PatTree → List Binder
in_patterns own k [] = []
in_patterns own k (p ∷ ps) = binder own p.on ∷ in_params k p.params ++ in_patterns own k ps

-- All occurrences that bind, in source order. The next scope that is opened has number k.
abbrev mutual
  pub in_process : ℕ → Process → List Binder
  in_process k Zero = []
  in_process k (Msg on args) = []
  in_process k (Go b c) = []
  in_process k (Fail b c) = []
  in_process k Halt = []
  in_process k (Add l r c) = []
  in_process k (Same l r c d) = []
  in_process k (Group ps) = in_processes k ps
  in_process k (Def ds ps) =
      in_definitions k (k + 1) ds ++ in_processes (k + 1 + scopes_in_defs ds) ps

  pub in_processes : ℕ → Processes → List Binder
  in_processes k none = []
  in_processes k (one_more p ps) = in_process k p ++ in_processes (k + scopes_in p) ps

  pub in_definition : (own k : ℕ) → Definition → List Binder
  in_definition own k (Rule pats body) = in_patterns own k pats ++ in_processes (k + 1) body
  in_definition own k (Place o a ds body) =
      binder own a ∷ in_definitions own k ds ++ in_processes (k + scopes_in_defs ds) body

  pub in_definitions : (own k : ℕ) → Definitions → List Binder
  in_definitions own k no_definition = []
  in_definitions own k (and_also d ds) =
      in_definition own k d ++ in_definitions own (k + scopes_in_def d) ds

abbrev pub is_same : Binder → Binder → Bool
is_same a b = a.scope == b.scope && bytes_eq a.text b.text

-- the members of a list that do not stand before, each once
abbrev pub firsts_after : (before list : List Binder) → List Binder
firsts_after before [] = []
firsts_after before (b ∷ bs) =
    if list_any (is_same b) before then firsts_after (before ++ b ∷ []) bs
    else b ∷ firsts_after (before ++ b ∷ []) bs

-- the binders of a list of defining occurrences of a scope
abbrev pub keys : ℕ → List Defining → List Binder
keys k [] = []
keys k (d ∷ ds) = binder k d.0 ∷ keys k ds

abbrev pub observed : TreeOfText → List Binder
observed t = keys 0 (observed_from 0 t.seen)

abbrev pub site_names : TreeOfText → List Binder
site_names t = keys 0 (block (sites_of t.sites))

abbrev pub all_binding : TreeOfText → List Binder
all_binding t = in_definitions 0 1 (sites_of t.sites)

-- The names that the sites define, in the order of their first defining occurrences: a spelling
-- that is first declared as an observed name is none.
abbrev pub site_level : TreeOfText → List Binder
site_level t = firsts_after (observed t) (site_names t)

-- all other binders, in the order of their first defining occurrences
abbrev pub others : TreeOfText → List Binder
others t = firsts_after (observed t ++ site_names t) (all_binding t)

-- binder number n is the n-th of these
abbrev pub binders : TreeOfText → List Binder
binders t = site_level t ++ others t

abbrev pub index_of : List Binder → Binder → ℕ
index_of [] b = 0
index_of (c ∷ cs) b = if is_same b c then 0 else 1 + index_of cs b
