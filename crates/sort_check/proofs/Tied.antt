-- What is asked of the words of a tree is what is read beside its program.
use Rattle.std.proofs.Common.{◌≡◌, ℕ, ◌+◌, List, [], ◌∷◌, ◌++◌, length, refl, sym, ap, ◌∙◌}
use Rattle.chem_model.specs.Process as t
use Rattle.chem_model.specs.declared.name.Ref.TheVariants as ref
use Rattle.chem_model.specs.ProgramFacts.{ProgramTerms}
use Rattle.chem_laws.proofs.Lists.{append_nil}
use Rattle.join_parse.specs.declared.word.Arg.{Arg}
use Rattle.join_parse.specs.declared.word.PatTree.{PatTree}
use Rattle.join_parse.specs.declared.tree.PlaceTree.{PlaceTree}
use Rattle.join_parse.specs.Source as s
use Rattle.join_parse.specs.Grammar.{TreeOfText}
use Rattle.scope_check.specs.Blocks.{block, params, parameters, place_of, sites_of, outermost}
use Rattle.scope_check.specs.Blocks.{Scope, open_at, scopes_in, scopes_in_def, scopes_in_defs}
use Rattle.scope_check.specs.Numbers.{Binder, binder, binders, index_of}
use Rattle.scope_check.specs.Stands.{together, ref_of, args_of, pats_of, process, members}
use Rattle.scope_check.specs.Stands.{definition, level, site_terms, program}
use Rattle.sort_laws.specs.declared.sorts.SortArg.{SortArg}
use Rattle.sort_laws.specs.Sorted.{Sorting}
use Rattle.sort_laws.specs.Table.{asked_by}
use Rattle.sort_laws.specs.Asks.{defines, calls, ref_sort}
use Rattle.sort_check.specs.Asked.{at, argument, arguments, patterns, asked, asked_of_all}
use Rattle.sort_check.specs.Asked.{asked_of_definition, asked_of_level, asked_of_seen, asked_of}
use Rattle.sort_check.specs.inside.Pairs.{pair_arguments, pair_patterns, pair, pair_body, pair_all}
use Rattle.sort_check.specs.inside.Pairs.{pair_one, pair_level, pair_sites}

module _ (r : Sorting) (number : Binder → ℕ) where
  arguments_tied : (env : List Scope) (ss : List SortArg) (vs : List Arg)
      → pair_arguments r ss vs (args_of number env vs) ≡ arguments r number env ss vs
  arguments_tied env [] [] = refl
  arguments_tied env [] (a ∷ vs) = refl
  arguments_tied env (x ∷ ss) [] = refl
  arguments_tied env (x ∷ ss) (a ∷ vs) =
      ap (λ zs. argument r number env x a ∷ zs) (arguments_tied env ss vs)

  patterns_tied : (own k : ℕ) (ps : List PatTree)
      → pair_patterns r ps (pats_of number own k ps) ≡ patterns r number own ps
  patterns_tied own k [] = refl
  patterns_tied own k (p ∷ ps) = ap (λ zs.
      at p.on (defines (length p.params)) (ref_sort r (ref.Binder (number (binder own p.on)))) ∷ zs)
      (patterns_tied own k ps)

  mutual
    tied : (env : List Scope) (k : ℕ) (p : s.Process)
        → pair r p (process number env k p) ≡ asked r number env k p
    tied env k s.Zero = refl
    tied env k (s.Msg on args) =
        let o = ref_sort r (ref_of number env on) in
        ap (λ zs. at on (calls (length args)) o ∷ zs) (arguments_tied env (asked_by r.args o) args)
    tied env k (s.Go b c) = refl
    tied env k (s.Fail b c) = refl
    tied env k s.Halt = refl
    tied env k (s.Add x y c) = refl
    tied env k (s.Same x y c d) = refl
    tied env k (s.Group ps) = body_tied env k ps
    tied env k (s.Def ds ps) =
        let inner = open_at k (block ds) env in
        λ i. level_tied k inner (k + 1) ds i ++ body_tied inner (k + 1 + scopes_in_defs ds) ps i

    body_tied : (env : List Scope) (k : ℕ) (ps : s.Processes)
        → pair_body r ps (together (members number env k ps)) ≡ asked_of_all r number env k ps
    body_tied env k s.none = refl
    body_tied env k (s.one_more p s.none) = tied env k p ∙ sym (append_nil (asked r number env k p))
    body_tied env k (s.one_more p (s.one_more u ps)) =
        λ i. tied env k p i ++ all_tied env (k + scopes_in p) (s.one_more u ps) i

    all_tied : (env : List Scope) (k : ℕ) (ps : s.Processes)
        → pair_all r ps (t.processes (members number env k ps)) ≡ asked_of_all r number env k ps
    all_tied env k s.none = refl
    all_tied env k (s.one_more p ps) = λ i. tied env k p i ++ all_tied env (k + scopes_in p) ps i

    one_tied : (own : ℕ) (env : List Scope) (k : ℕ) (d : s.Definition)
        → pair_one r d (definition number own env k d) ≡ asked_of_definition r number own env k d
    one_tied own env k (s.Rule pats body) = λ i. patterns_tied own k pats i
        ++ body_tied (open_at k (parameters (params pats)) env) (k + 1) body i
    one_tied own env k (s.Place o a ds body) =
        λ i. level_tied own env k ds i ++ body_tied env (k + scopes_in_defs ds) body i

    level_tied : (own : ℕ) (env : List Scope) (k : ℕ) (ds : s.Definitions)
        → pair_level r ds (t.definitions (level number own env k ds))
        ≡ asked_of_level r number own env k ds
    level_tied own env k s.no_definition = refl
    level_tied own env k (s.and_also d ds) =
        λ i. one_tied own env k d i ++ level_tied own env (k + scopes_in_def d) ds i

  sites_tied : (env : List Scope) (k : ℕ) (xs : List PlaceTree)
      → pair_sites r xs (site_terms number env k xs) ≡ asked_of_level r number 0 env k (sites_of xs)
  sites_tied env k [] = refl
  sites_tied env k (x ∷ xs) =
      λ i. one_tied 0 env k (place_of x) i ++ sites_tied env (k + scopes_in_def (place_of x)) xs i

-- what the judge reads of a tree and its program
pub all_tied_of : (r : Sorting) (tree : TreeOfText) (p : ProgramTerms) → p ≡ program tree
    → asked_of_seen r 0 tree.seen ++ pair_sites r tree.sites p.sites ≡ asked_of r tree
all_tied_of r tree p is =
    ap (λ (q : ProgramTerms). asked_of_seen r 0 tree.seen ++ pair_sites r tree.sites q.sites) is
    ∙ ap (λ zs. asked_of_seen r 0 tree.seen ++ zs)
    (sites_tied r (index_of (binders tree)) (open_at 0 (outermost tree) []) 1 tree.sites)
