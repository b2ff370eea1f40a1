-- Each node of a program's terms has a token of its own.
use Rattle.std.proofs.Common.{◌≡◌, ℕ, ◌+◌, ◌≤◌, List, [], ◌∷◌, length, refl, arith}
use Rattle.std.specs.Prelude.{sum_by}
use Rattle.std.proofs.lemmas.List.Sums.{sum_by-cons}
use Rattle.chem_model.specs.declared.name.Pat.{Pat}
use Rattle.chem_model.specs.declared.name.Ref.TheVariants as ref
use Rattle.join_parse.specs.declared.word.Word.{Word}
use Rattle.join_parse.specs.declared.word.Arg.{Arg}
use Rattle.join_parse.specs.declared.word.PatTree.{PatTree}
use Rattle.join_parse.specs.declared.word.SeenTree.{SeenTree}
use Rattle.join_parse.specs.declared.tree.PlaceTree.{PlaceTree}
use Rattle.join_parse.specs.Source as s
use Rattle.join_parse.specs.Terminals.{Terminal, a_key, a_sign}
use Rattle.join_lex.specs.declared.token.Key.TheVariants as key
use Rattle.join_lex.specs.declared.token.Sign.TheVariants as sign
use Rattle.join_parse.specs.Grammar.{TreeOfText, Places, is_second, opening, more_args, arguments}
use Rattle.join_parse.specs.Grammar.{of_message, more_names, names, applied, more_patterns}
use Rattle.join_parse.specs.Grammar.{patterns, of_process, of_processes, more_processes}
use Rattle.join_parse.specs.Grammar.{of_definition, of_definitions, more_definitions}
use Rattle.join_parse.specs.Grammar.{of_declarations, of_sites, sentence, IsNotEmpty, IsProcess}
use Rattle.join_parse.specs.Grammar.{AreProcesses, AreMore, IsDefinition, AreDefinitions, AreSites}
use Rattle.chem_model.specs.Process as t
use Rattle.chem_model.specs.Binders.{pattern_nodes, nodes, nodes_of_all, nodes_of, definition_nodes}
use Rattle.scope_check.specs.Blocks.{block, params, parameters, sites_of, place_of, Scope, open_at}
use Rattle.scope_check.specs.Blocks.{scopes_in, scopes_in_def, scopes_in_defs}
use Rattle.scope_check.specs.Numbers.{Binder, binder}
use Rattle.scope_check.specs.Stands.{together, args_of, numbers, pats_of, process, members}
use Rattle.scope_check.specs.Stands.{definition, level}
use Rattle.std.specs.Prelude.{Bool, true, false}

-- a sum from the front
pub sum-cons : {A : Type 0} (f : A → ℕ) (x : A) (xs : List A)
    → sum_by f (x ∷ xs) ≡ f x + sum_by f xs
sum-cons f x xs = sum_by-cons f x xs

-- the tokens of names, of patterns

more_names-long : (ws : List Word) (rest : List Terminal)
    → length ws + length rest + 1 ≤ length (more_names ws rest)
more_names-long [] rest = omega arith
more_names-long (w ∷ ws) rest = omega (arith, more_names-long ws rest)

names-long : (ws : List Word) (rest : List Terminal)
    → length ws + length rest + 1 ≤ length (names ws rest)
names-long [] rest = omega arith
names-long (w ∷ ws) rest = omega (arith, more_names-long ws rest)

applied-long : (w : Word) (ws : List Word) (rest : List Terminal)
    → 3 + length ws + length rest ≤ length (applied w ws rest)
applied-long w ws rest = omega (arith, names-long ws rest)

more_args-long : (vs : List Arg) (rest : List Terminal)
    → length vs + length rest + 1 ≤ length (more_args vs rest)
more_args-long [] rest = omega arith
more_args-long (a ∷ vs) rest = omega (arith, more_args-long vs rest)

arguments-long : (vs : List Arg) (rest : List Terminal)
    → length vs + length rest + 1 ≤ length (arguments vs rest)
arguments-long [] rest = omega arith
arguments-long (a ∷ vs) rest = omega (arith, more_args-long vs rest)

message-long : (w : Word) (vs : List Arg) (rest : List Terminal)
    → 3 + length vs + length rest ≤ length (of_message w vs rest)
message-long w vs rest = omega (arith, arguments-long vs rest)

module _ (number : Binder → ℕ) where
  pub length-numbers : (k : ℕ) (ws : List Word) → length (numbers number k ws) ≡ length ws
  length-numbers k [] = refl
  length-numbers k (w ∷ ws) = omega (arith, length-numbers k ws)

  more_patterns-long : (own k : ℕ) (ps : List PatTree) (rest : List Terminal)
      → 1 + pattern_nodes (pats_of number own k ps) + length rest ≤ length (more_patterns ps rest)
  more_patterns-long own k [] rest = omega arith
  more_patterns-long own k (p ∷ ps) rest =
      omega (
        arith,
        sum-cons (λ (q : Pat). 2 + length q.params) (record {
          on = ref.Binder (number (binder own p.on));
          params = numbers number k p.params;
        }) (pats_of number own k ps),
        applied-long p.on p.params (more_patterns ps rest),
        more_patterns-long own k ps rest,
        length-numbers k p.params,
      )

  patterns-long : (own k : ℕ) (ps : List PatTree) (rest : List Terminal) → IsNotEmpty ps
      → 1 + pattern_nodes (pats_of number own k ps) + length rest ≤ length (patterns ps rest)
  patterns-long own k [] rest some = absurd some
  patterns-long own k (p ∷ ps) rest some =
      omega (
        arith,
        sum-cons (λ (q : Pat). 2 + length q.params) (record {
          on = ref.Binder (number (binder own p.on));
          params = numbers number k p.params;
        }) (pats_of number own k ps),
        applied-long p.on p.params (more_patterns ps rest),
        more_patterns-long own k ps rest,
        length-numbers k p.params,
      )

  declarations-long : (at : Places) (ds : List SeenTree) (rest : List Terminal)
      → length rest ≤ length (of_declarations at ds rest)
  declarations-long at [] rest = omega arith
  declarations-long at (d ∷ ds) rest = omega (arith, declarations-long at ds rest)

  opening-long : (at : Places) (second : Bool) (rest : List Terminal)
      → length rest ≤ length (opening at second rest)
  opening-long at true rest = omega arith
  opening-long at false rest = omega arith

  pub length-args : (env : List Scope) (vs : List Arg) → length (args_of number env vs) ≡ length vs
  length-args env [] = refl
  length-args env (a ∷ vs) = omega (arith, length-args env vs)

  -- of a version, whatever the places of numbers
  module _ (second : Bool) (at : Places) where
    mutual
      process-long : (p : s.Process) (env : List Scope) (k : ℕ) (rest : List Terminal)
          → IsProcess second p
          → nodes (process number env k p) + length rest ≤ length (of_process at p rest)
      process-long s.Zero env k rest h = omega arith
      process-long (s.Msg on args) env k rest h =
          omega (arith, message-long on args rest, length-args env args)
      process-long (s.Go b c) env k rest h = omega arith
      process-long (s.Fail b c) env k rest h = omega arith
      process-long s.Halt env k rest h = omega arith
      process-long (s.Add l r c) env k rest h = omega arith
      process-long (s.Same l r c d) env k rest h = omega arith
      process-long (s.Group ps) env k rest h =
          omega (arith, processes-long ps env k (a_sign sign.ParenRight ∷ rest) h)
      process-long (s.Def ds ps) env k rest h =
          let inner = open_at k (block ds) env in
          omega (
            arith,
            level-long ds k inner (k + 1) false (a_key key.Inside ∷ of_processes at ps rest) h.0,
            processes-long ps inner (k + 1 + scopes_in_defs ds) rest h.1,
          )

      processes-long : (ps : s.Processes) (env : List Scope) (k : ℕ) (rest : List Terminal)
          → AreProcesses second ps
          → nodes (together (members number env k ps)) + length rest
          ≤ length (of_processes at ps rest)
      processes-long s.none env k rest h = absurd h
      processes-long (s.one_more p s.none) env k rest h = process-long p env k rest h.0
      processes-long (s.one_more p (s.one_more q ps)) env k rest h =
          omega (
            arith,
            process-long p env k (more_processes at (s.one_more q ps) rest) h.0,
            more-long (s.one_more q ps) p env (k + scopes_in p) rest h.1,
          )

      -- each has a bar before it
      more-long :
          (ps : s.Processes) (p : s.Process) (env : List Scope) (k : ℕ) (rest : List Terminal)
          → AreMore second p ps
          → length (members number env k ps) + nodes_of_all (t.processes (members number env k ps))
          + length rest ≤ length (more_processes at ps rest)
      more-long s.none p env k rest h = omega arith
      more-long (s.one_more q ps) p env k rest h =
          omega (
            arith,
            process-long q env k (more_processes at ps rest) h.1,
            more-long ps q env (k + scopes_in q) rest h.2,
          )

      definition-long :
          (d : s.Definition) (own : ℕ) (env : List Scope) (k : ℕ) (within : Bool)
          (rest : List Terminal) → IsDefinition second within d
          → nodes_of (definition number own env k d) + length rest
          ≤ length (of_definition at d rest)
      definition-long (s.Rule pats body) own env k within rest h =
          omega (
            arith,
            patterns-long own k pats (of_processes at body rest) h.0,
            processes-long body (open_at k (parameters (params pats)) env) (k + 1) rest h.2,
          )
      definition-long (s.Place o a ds body) own env k true rest h = absurd h
      definition-long (s.Place o a ds body) own env k false rest h =
          omega (
            arith,
            level-long ds own env k true
                (a_sign sign.Colon ∷ of_processes at body (a_sign sign.SquareRight ∷ rest)) h.1,
            processes-long body env (k + scopes_in_defs ds) (a_sign sign.SquareRight ∷ rest) h.2,
          )

      level-long :
          (ds : s.Definitions) (own : ℕ) (env : List Scope) (k : ℕ) (within : Bool)
          (rest : List Terminal) → AreDefinitions second within ds
          → definition_nodes (t.definitions (level number own env k ds)) + length rest
          ≤ length (of_definitions at ds rest)
      level-long s.no_definition own env k within rest h = omega arith
      level-long (s.and_also d ds) own env k within rest h =
          omega (
            arith,
            definition-long d own env k within (more_definitions at ds rest) h.0,
            more-level-long ds own env (k + scopes_in_def d) within rest h.1,
          )

      more-level-long :
          (ds : s.Definitions) (own : ℕ) (env : List Scope) (k : ℕ) (within : Bool)
          (rest : List Terminal) → AreDefinitions second within ds
          → definition_nodes (t.definitions (level number own env k ds)) + length rest
          ≤ length (more_definitions at ds rest)
      more-level-long s.no_definition own env k within rest h = omega arith
      more-level-long (s.and_also d ds) own env k within rest h =
          omega (
            arith,
            definition-long d own env k within (more_definitions at ds rest) h.0,
            more-level-long ds own env (k + scopes_in_def d) within rest h.1,
          )

    sites-long : (ss : List PlaceTree) (env : List Scope) (k : ℕ) → AreSites second ss
        → definition_nodes (t.definitions (level number 0 env k (sites_of ss)))
        ≤ length (of_sites at ss [])
    sites-long [] env k h = omega arith
    sites-long (x ∷ ss) env k h =
        omega (
          arith,
          level-long (s.definitions x.defs) 0 env k false (a_sign sign.Colon
              ∷ of_processes at (s.processes x.body) (a_sign sign.SquareRight ∷ of_sites at ss []))
              h.0,
          processes-long (s.processes x.body) env (k + scopes_in_defs (s.definitions x.defs))
              (a_sign sign.SquareRight ∷ of_sites at ss []) h.1,
          sites-long ss env (k + scopes_in_def (place_of x)) h.2,
        )

    pub sentence-long : (tree : TreeOfText) (env : List Scope) (k : ℕ) → AreSites second tree.sites
        → definition_nodes (t.definitions (level number 0 env k (sites_of tree.sites)))
        ≤ length (sentence at tree)
    sentence-long tree env k h = omega (
      arith,
      sites-long tree.sites env k h,
      declarations-long at tree.seen (of_sites at tree.sites []),
      opening-long at (is_second tree.version)
          (of_declarations at tree.seen (of_sites at tree.sites [])),
    )
