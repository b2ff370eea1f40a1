-- Where a tree has no fault, nothing that is asked of its program's names is answered wrongly.
use Rattle.std.proofs.Common.{◌≡◌, ℕ, suc, ◌+◌, List, [], ◌∷◌, ◌++◌, Option, Some, None, refl, sym}
use Rattle.std.proofs.Common.{ap, ◌∙◌, subst, length, inl, inr}
use Rattle.chem_model.specs.Each.{Each, IsIn}
use Rattle.chem_model.specs.Process as t
use Rattle.chem_model.specs.declared.name.Ref.{Ref}
use Rattle.chem_model.specs.declared.name.Ref.TheVariants as ref
use Rattle.chem_model.specs.ProgramFacts.{ProgramTerms, places}
use Rattle.chem_laws.proofs.Lists.{append_nil}
use Rattle.join_parse.specs.declared.word.Word.{Word}
use Rattle.join_parse.specs.declared.word.Arg.{Arg}
use Rattle.join_parse.specs.declared.word.PatTree.{PatTree}
use Rattle.join_parse.specs.declared.word.SeenTree.{SeenTree}
use Rattle.join_parse.specs.declared.tree.PlaceTree.{PlaceTree}
use Rattle.join_parse.specs.Source as s
use Rattle.join_parse.specs.Grammar.{TreeOfText}
use Rattle.scope_check.specs.Blocks.{Resolved, resolve, block, params, parameters, place_of}
use Rattle.scope_check.specs.Blocks.{sites_of, outermost, Scope, open_at, scopes_in, scopes_in_def}
use Rattle.scope_check.specs.Blocks.{scopes_in_defs}
use Rattle.scope_names.specs.declared.scope.Sort.{Sort}
use Rattle.scope_names.specs.declared.scope.Sort.TheVariants.{Channel, Location, Observed}
use Rattle.scope_names.specs.declared.scope.Sort.TheVariants.{Parameter}
use Rattle.scope_check.specs.Numbers.{Binder, binder, binders, index_of}
use Rattle.scope_check.specs.Stands.{together, ref_as, ref_to, ref_of, arg_of, args_of, numbers}
use Rattle.scope_check.specs.Stands.{pats_of, process, members, definition, level, site_terms}
use Rattle.scope_check.specs.Stands.{seen_decls, program}
use Rattle.sort_laws.specs.declared.sorts.SortArg.{SortArg}
use Rattle.sort_laws.specs.declared.sorts.Sorts.{Sorts}
use Rattle.sort_laws.specs.Sorted.{Sorting}
use Rattle.sort_laws.specs.Table.{asked_by, sorting}
use Rattle.sort_laws.specs.Asks.{Ask, ask, defines, calls, sends, ref_sort, argument_asks}
use Rattle.sort_laws.specs.Asks.{channel_asks, message_asks, pattern_asks, asks, asks_of_all}
use Rattle.sort_laws.specs.Asks.{asks_of_definition, asks_of_definitions, declaration_asks}
use Rattle.sort_laws.specs.Asks.{program_asks, IsWrongAs, IsRight, Passes}
use Rattle.sort_laws.proofs.Checked.{what_passes_is_sorted}
use Rattle.sort_laws.proofs.Replay.{no_atom_is_wrong}
use Rattle.sort_check.specs.Asked.{Asked, at, arguments, patterns, asked, asked_of_all}
use Rattle.sort_check.specs.Asked.{asked_of_definition, asked_of_level, asked_of_seen, asked_of}
use Rattle.sort_check.specs.Judged.{HasNoFault, NoFaultNoWrongAtom}

-- ---- what is asked, without its places

abbrev pub asks_in : List Asked → List Ask
asks_in [] = []
asks_in (a ∷ more) = ask a.demand a.sort ∷ asks_in more

asks-append : (xs ys : List Asked) → asks_in (xs ++ ys) ≡ asks_in xs ++ asks_in ys
asks-append [] ys = refl
asks-append (a ∷ xs) ys = ap (λ zs. ask a.demand a.sort ∷ zs) (asks-append xs ys)

both : (xs ys : List Asked) (us vs : List Ask) → asks_in xs ≡ us → asks_in ys ≡ vs
    → asks_in (xs ++ ys) ≡ us ++ vs
both xs ys us vs e f = asks-append xs ys ∙ (λ i. e i ++ f i)

length-args : (number : Binder → ℕ) (env : List Scope) (vs : List Arg)
    → length (args_of number env vs) ≡ length vs
length-args number env [] = refl
length-args number env (a ∷ vs) = ap suc (length-args number env vs)

length-numbers : (number : Binder → ℕ) (k : ℕ) (ws : List Word)
    → length (numbers number k ws) ≡ length ws
length-numbers number k [] = refl
length-numbers number k (w ∷ ws) = ap suc (length-numbers number k ws)

-- what is asked of a list of processes, and of their composition
abbrev all_asks : Sorting → List t.Process → List Ask
all_asks r [] = []
all_asks r (p ∷ ps) = asks r p ++ all_asks r ps

all_are : (r : Sorting) (ps : List t.Process) → asks_of_all r (t.processes ps) ≡ all_asks r ps
all_are r [] = refl
all_are r (p ∷ ps) = ap (λ zs. asks r p ++ zs) (all_are r ps)

together_asks : (r : Sorting) (ps : List t.Process) → asks r (together ps) ≡ all_asks r ps
together_asks r [] = refl
together_asks r (p ∷ []) = sym (append_nil (asks r p))
together_asks r (p ∷ q ∷ ps) = all_are r (p ∷ q ∷ ps)

module _ (r : Sorting) (number : Binder → ℕ) where
  arguments_are : (env : List Scope) (ss : List SortArg) (vs : List Arg)
      → asks_in (arguments r number env ss vs) ≡ argument_asks r ss (args_of number env vs)
  arguments_are env ss [] = refl
  arguments_are env [] (a ∷ vs) = refl
  arguments_are env (x ∷ ss) (a ∷ vs) =
      ap (λ zs. ask (sends x) (ref_sort r (arg_of number env a)) ∷ zs) (arguments_are env ss vs)

  -- a word of a text stands for no operation
  word_asks : (text : List ℕ) (o : Option Resolved) (vs : List Ref)
      → message_asks r (ref_to number text o) vs ≡ channel_asks r (ref_to number text o) vs
  word_asks text None vs = refl
  word_asks text (Some x) vs = go x.sort
    where
      go : (sort : Sort)
          → message_asks r (ref_as number text x.scope sort) vs
          ≡ channel_asks r (ref_as number text x.scope sort) vs
      go (Observed m i) = refl
      go (Channel m at) = refl
      go Location = refl
      go Parameter = refl

  patterns_are : (own k : ℕ) (ps : List PatTree)
      → asks_in (patterns r number own ps) ≡ pattern_asks r (pats_of number own k ps)
  patterns_are own k [] = refl
  patterns_are own k (p ∷ ps) =
      let o = ref_sort r (ref.Binder (number (binder own p.on))) in
      λ i. ask (defines (sym (length-numbers number k p.params) i)) o ∷ patterns_are own k ps i

  mutual
    asked_are : (env : List Scope) (k : ℕ) (p : s.Process)
        → asks_in (asked r number env k p) ≡ asks r (process number env k p)
    asked_are env k s.Zero = refl
    asked_are env k (s.Msg on args) =
        let o = ref_sort r (ref_of number env on) in
        (λ i. ask (calls (sym (length-args number env args) i)) o
        ∷ arguments_are env (asked_by r.args o) args i)
        ∙ sym (word_asks on.text (resolve env on.text) (args_of number env args))
    asked_are env k (s.Go b c) = refl
    asked_are env k (s.Fail b c) = refl
    asked_are env k s.Halt = refl
    asked_are env k (s.Add x y c) = refl
    asked_are env k (s.Same x y c d) = refl
    asked_are env k (s.Group ps) =
        (members_are env k ps ∙ sym (together_asks r (members number env k ps)))
    asked_are env k (s.Def ds ps) =
        let inner = open_at k (block ds) env in
        both (asked_of_level r number k inner (k + 1) ds)
        (asked_of_all r number inner (k + 1 + scopes_in_defs ds) ps) _ _
        (level_are k inner (k + 1) ds) (members_are inner (k + 1 + scopes_in_defs ds) ps
        ∙ sym (together_asks r (members number inner (k + 1 + scopes_in_defs ds) ps)))

    members_are : (env : List Scope) (k : ℕ) (ps : s.Processes)
        → asks_in (asked_of_all r number env k ps) ≡ all_asks r (members number env k ps)
    members_are env k s.none = refl
    members_are env k (s.one_more p ps) =
        both (asked r number env k p) (asked_of_all r number env (k + scopes_in p) ps) _ _
        (asked_are env k p) (members_are env (k + scopes_in p) ps)

    definition_are : (own : ℕ) (env : List Scope) (k : ℕ) (d : s.Definition)
        → asks_in (asked_of_definition r number own env k d)
        ≡ asks_of_definition r (definition number own env k d)
    definition_are own env k (s.Rule pats body) =
        let inner = open_at k (parameters (params pats)) env in
        both (patterns r number own pats) (asked_of_all r number inner (k + 1) body) _ _
        (patterns_are own k pats)
        (members_are inner (k + 1) body ∙ sym (together_asks r (members number inner (k + 1) body)))
    definition_are own env k (s.Place o a ds body) =
        both (asked_of_level r number own env k ds)
        (asked_of_all r number env (k + scopes_in_defs ds) body) _ _ (level_are own env k ds)
        (members_are env (k + scopes_in_defs ds) body
        ∙ sym (together_asks r (members number env (k + scopes_in_defs ds) body)))

    level_are : (own : ℕ) (env : List Scope) (k : ℕ) (ds : s.Definitions)
        → asks_in (asked_of_level r number own env k ds)
        ≡ asks_of_definitions r (t.definitions (level number own env k ds))
    level_are own env k s.no_definition = refl
    level_are own env k (s.and_also d ds) =
        both (asked_of_definition r number own env k d)
        (asked_of_level r number own env (k + scopes_in_def d) ds) _ _ (definition_are own env k d)
        (level_are own env (k + scopes_in_def d) ds)

-- ---- the sites as one definition

places_are : (number : Binder → ℕ) (xs : List PlaceTree) (env : List Scope) (k : ℕ)
    → places (site_terms number env k xs) ≡ t.definitions (level number 0 env k (sites_of xs))
places_are number [] env k = refl
places_are number (x ∷ xs) env k =
    ap (λ l. t.and_also (t.Place (ref.Binder (number (binder 0 x.name)))
    (t.definitions (level number 0 env k (s.definitions x.defs))) (together
    (members number env (k + scopes_in_defs (s.definitions x.defs)) (s.processes x.body)))) l)
    (places_are number xs env (k + scopes_in_def (place_of x)))

declarations_are : (r : Sorting) (i : ℕ) (xs : List SeenTree)
    → asks_in (asked_of_seen r i xs) ≡ declaration_asks r i (seen_decls xs)
declarations_are r i [] = refl
declarations_are r i (x ∷ xs) =
    ap (λ zs. ask (defines x.count) (r.seen i) ∷ zs) (declarations_are r (i + 1) xs)

pub all_asked : (r : Sorting) (tree : TreeOfText)
    → asks_in (asked_of r tree) ≡ program_asks r (program tree)
all_asked r tree =
    let number = index_of (binders tree) in
    let env = open_at 0 (outermost tree) [] in
    both (asked_of_seen r 0 tree.seen) (asked_of_level r number 0 env 1 (sites_of tree.sites)) _ _
    (declarations_are r 0 tree.seen)
    (level_are r number 0 env 1 (sites_of tree.sites)
    ∙ sym (ap (asks_of_definitions r) (places_are number tree.sites env 1)))

-- ---- no fault

right_asks : (r : Sorting) (xs : List Asked)
    → ((a : Asked) → IsIn a xs → (k : ℕ) → IsWrongAs r.args a.demand a.sort k → ⊥)
    → Each (IsRight r) (asks_in xs)
right_asks r [] f = tt
right_asks r (a ∷ xs) f = (f a (inl refl), right_asks r xs (λ b i. f b (inr i)))

pub passes : (tree : TreeOfText) (p : ProgramTerms) (sorts : Sorts) → p ≡ program tree
    → HasNoFault (sorting sorts p) tree → Passes sorts p
passes tree p sorts is f =
    let r = sorting sorts p in
    let all : asks_in (asked_of r tree) ≡ program_asks r p =
    all_asked r tree ∙ ap (program_asks r) (sym is) in
    subst (Each (IsRight r)) all (right_asks r (asked_of r tree)
    (λ a i k w. f k a.place (record { asked = a; stands = i; here = refl; wrong = w })))

pub no_fault_no_wrong_atom : NoFaultNoWrongAtom
no_fault_no_wrong_atom tree p sorts of_tree program f = no_atom_is_wrong (sorting sorts p) p program
    (what_passes_is_sorted sorts p program (passes tree p sorts of_tree.is f))
