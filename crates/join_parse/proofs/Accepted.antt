-- Every sentence of the grammar is accepted, with the levels of its tree along it.
use Rattle.std.proofs.Common.{subst, ◌⊎◌, inl, inr, ◌≡◌, ℕ, ◌+◌, ◌≤◌, Bool, true, false, List, []}
use Rattle.std.proofs.Common.{◌∷◌, length, refl, sym, ap, ◌∙◌, arith, Option, Some, None, ltb, leb}
use Rattle.std.proofs.lemmas.Bool.Decides.{nat_tests}
use Rattle.join_lex.specs.declared.token.Key.TheVariants as key
use Rattle.join_lex.specs.declared.token.Sign.TheVariants as sign
use Rattle.join_parse.specs.declared.word.Word.{Word}
use Rattle.join_parse.specs.declared.word.Arg.{Arg}
use Rattle.join_parse.specs.declared.word.Arg.TheVariants as arg
use Rattle.join_parse.specs.declared.word.PatTree.{PatTree}
use Rattle.join_parse.specs.declared.word.SeenTree.{SeenTree}
use Rattle.join_parse.specs.declared.tree.PlaceTree.{PlaceTree}
use Rattle.join_parse.specs.Terminals.{Terminal, a_number, a_key, a_sign, argument, kind_of}
use Rattle.join_parse.specs.Source.{Process, Zero, Msg, Go, Fail, Halt, Add, Same, Group, Def}
use Rattle.join_parse.specs.Source.{Processes, none, one_more, Definition, Rule, Place, Definitions}
use Rattle.join_parse.specs.Source.{no_definition, and_also, processes, definitions}
use Rattle.join_parse.specs.Grammar.{TreeOfText, Places, is_second, opening, more_args, arguments}
use Rattle.join_parse.specs.Grammar.{IsArgument, AreArguments, more_names, names, more_patterns}
use Rattle.join_parse.specs.Grammar.{of_process, of_processes, more_processes, of_definition}
use Rattle.join_parse.specs.Grammar.{of_definitions, more_definitions, of_declarations, of_sites}
use Rattle.join_parse.specs.Grammar.{sentence, IsNotEmpty, AreShort, IsSimple, IsProcess}
use Rattle.join_parse.specs.Grammar.{AreProcesses, AreMore, IsDefinition, AreDefinitions}
use Rattle.join_parse.specs.Grammar.{AreDeclarations, AreSites, IsGrammatical}
use Rattle.join_parse.specs.Levels.{more_names_levels, names_levels, more_patterns_levels}
use Rattle.join_parse.specs.Levels.{process_levels, processes_levels, more_processes_levels}
use Rattle.join_parse.specs.Levels.{definition_levels, definitions_levels, more_definitions_levels}
use Rattle.join_parse.specs.Levels.{declarations_levels, sites_levels, opening_levels, levels}
use Rattle.join_parse.specs.Begins.{Symbol, AName, ASign, AKey, CloseGroup, CloseSquare, EndDef}
use Rattle.join_parse.specs.Begins.{Program, Sites, Defs, MoreDefs, DefRest, MorePatterns, Names}
use Rattle.join_parse.specs.Begins.{MoreNames, AnArg, Args, MoreArgs, AProc, MoreProcs, start}
use Rattle.join_parse.specs.inside.Automaton.{advance, may_end, level, is_sign, is_key}

abbrev pub followed : (List Symbol → List ℕ × Bool) → Option (List Symbol) → List ℕ × Bool
followed go None = ([], false)
followed go (Some after) = (level after ∷ (go after).0, (go after).1)

-- the level after each terminal, and whether they are all that is expected
abbrev pub run : Bool → List Terminal → List Symbol → List ℕ × Bool
run second [] stack = ([], may_end stack)
run second (t ∷ ts) stack = followed (run second ts) (advance second stack (kind_of t))

abbrev pub over : (List ℕ → List ℕ) → List ℕ × Bool → List ℕ × Bool
over f r = (f r.0, r.1)

-- what follows is not a `|`, not an `and`
abbrev pub NoBar : List Terminal → Type 0
NoBar [] = Unit {0}
NoBar (t ∷ ts) = is_sign sign.Bar (kind_of t) ≡ false

abbrev pub NoAnd : List Terminal → Type 0
NoAnd [] = Unit {0}
NoAnd (t ∷ ts) = is_key key.And (kind_of t) ≡ false

-- a number as an argument, and operations
r-number : (second : Bool) → second ≡ true
    → (value from : ℕ) (rest : List Terminal) (stack : List Symbol)
    → run second (a_number value from ∷ rest) (AnArg ∷ stack)
    ≡ over (λ ls. level stack ∷ ls) (run second rest stack)
r-number true e value from rest stack = refl
r-number false e value from rest stack = let no : false ≡ true = e in cc

r-def : (second : Bool) (rest : List Terminal) (stack : List Symbol)
    → run second (a_key key.Def ∷ rest) (AProc ∷ stack)
    ≡ over (λ ls. (1 + level stack) ∷ ls)
    (run second rest (Defs false ∷ AKey key.Inside ∷ AProc ∷ EndDef ∷ stack))
r-def true rest stack = refl
r-def false rest stack = refl

r-first-number : (second : Bool) → second ≡ true
    → (value from : ℕ) (rest : List Terminal) (stack : List Symbol)
    → run second (a_number value from ∷ rest) (Args ∷ stack)
    ≡ over (λ ls. level stack ∷ ls) (run second rest (MoreArgs 1 ∷ stack))
r-first-number true e value from rest stack = refl
r-first-number false e value from rest stack = let no : false ≡ true = e in cc

r-add : (second : Bool) (at : Places) → second ≡ true
    → (l m : Arg) (k : Word) (rest : List Terminal) (stack : List Symbol)
    → run second (of_process at (Add l m k) rest) (AProc ∷ stack)
    ≡ over (process_levels (Add l m k) (level stack)) (run second rest (MoreProcs ∷ stack))
r-add true at e (arg.Word a) (arg.Word b) k rest stack = refl
r-add true at e (arg.Word a) (arg.Num j q) k rest stack = refl
r-add true at e (arg.Num i p) (arg.Word b) k rest stack = refl
r-add true at e (arg.Num i p) (arg.Num j q) k rest stack = refl
r-add false at e l m k rest stack = let no : false ≡ true = e in cc

r-same : (second : Bool) (at : Places) → second ≡ true
    → (l m : Arg) (y z : Word) (rest : List Terminal) (stack : List Symbol)
    → run second (of_process at (Same l m y z) rest) (AProc ∷ stack)
    ≡ over (process_levels (Same l m y z) (level stack)) (run second rest (MoreProcs ∷ stack))
r-same true at e (arg.Word a) (arg.Word b) y z rest stack = refl
r-same true at e (arg.Word a) (arg.Num j q) y z rest stack = refl
r-same true at e (arg.Num i p) (arg.Word b) y z rest stack = refl
r-same true at e (arg.Num i p) (arg.Num j q) y z rest stack = refl
r-same false at e l m y z rest stack = let no : false ≡ true = e in cc

module _ (second : Bool) (at : Places) where
  pass-processes : (ts : List Terminal) (stack : List Symbol) → NoBar ts
      → run second ts (MoreProcs ∷ stack) ≡ run second ts stack
  pass-processes [] stack n = refl
  pass-processes (t ∷ ts) stack n = rw n refl

  pass-definitions : (ts : List Terminal) (within : Bool) (stack : List Symbol) → NoAnd ts
      → run second ts (MoreDefs within ∷ stack) ≡ run second ts stack
  pass-definitions [] within stack n = refl
  pass-definitions (t ∷ ts) within stack n = rw n refl

  pass-end : (ts : List Terminal) (stack : List Symbol)
      → run second ts (EndDef ∷ stack) ≡ run second ts stack
  pass-end [] stack = refl
  pass-end (t ∷ ts) stack = refl

  r-more_names : (n : ℕ) (ws : List Word) (rest : List Terminal) (stack : List Symbol)
      → n + length ws ≤ 255
      → run second (more_names ws rest) (MoreNames n ∷ stack)
      ≡ over (more_names_levels (level stack) ws) (run second rest stack)
  r-more_names n [] rest stack l = refl
  r-more_names n (w ∷ ws) rest stack l =
      let t : ltb n 255 ≡ true = grind (arith, nat_tests) in
      rw t (ap (over (λ ls. level stack ∷ level stack ∷ ls))
      (r-more_names (n + 1) ws rest stack (omega arith)))

  r-names : (ws : List Word) (rest : List Terminal) (stack : List Symbol) → length ws ≤ 255
      → run second (names ws rest) (Names ∷ stack)
      ≡ over (names_levels (level stack) ws) (run second rest stack)
  r-names [] rest stack l = refl
  r-names (w ∷ ws) rest stack l =
      ap (over (λ ls. level stack ∷ ls)) (r-more_names 1 ws rest stack (omega arith))

  r-arg : (v : Arg) (rest : List Terminal) (stack : List Symbol) → IsArgument second v
      → run second (argument v ∷ rest) (AnArg ∷ stack)
      ≡ over (λ ls. level stack ∷ ls) (run second rest stack)
  r-arg (arg.Word w) rest stack i = refl
  r-arg (arg.Num value from) rest stack i = r-number second i value from rest stack

  r-more_args : (n : ℕ) (vs : List Arg) (rest : List Terminal) (stack : List Symbol)
      → n + length vs ≤ 255 → AreArguments second vs
      → run second (more_args vs rest) (MoreArgs n ∷ stack)
      ≡ over (more_names_levels (level stack) vs) (run second rest stack)
  r-more_args n [] rest stack l a = refl
  r-more_args n (v ∷ vs) rest stack l a =
      let t : ltb n 255 ≡ true = grind (arith, nat_tests) in
      rw t (ap (over (λ ls. level stack ∷ ls))
      (r-arg v (more_args vs rest) (MoreArgs (n + 1) ∷ stack) a.0
      ∙ ap (over (λ ls. level stack ∷ ls)) (r-more_args (n + 1) vs rest stack (omega arith) a.1)))

  r-arguments : (vs : List Arg) (rest : List Terminal) (stack : List Symbol) → length vs ≤ 255
      → AreArguments second vs
      → run second (arguments vs rest) (Args ∷ stack)
      ≡ over (names_levels (level stack) vs) (run second rest stack)
  r-arguments [] rest stack l a = refl
  r-arguments (arg.Word w ∷ vs) rest stack l a =
      ap (over (λ ls. level stack ∷ ls)) (r-more_args 1 vs rest stack (omega arith) a.1)
  r-arguments (arg.Num value from ∷ vs) rest stack l a =
      r-first-number second a.0 value from (more_args vs rest) stack
      ∙ ap (over (λ ls. level stack ∷ ls)) (r-more_args 1 vs rest stack (omega arith) a.1)

  r-more_patterns : (ps : List PatTree) (rest : List Terminal) (stack : List Symbol) → AreShort ps
      → run second (more_patterns ps rest) (MorePatterns ∷ stack)
      ≡ over (more_patterns_levels (level stack) ps) (run second rest stack)
  r-more_patterns [] rest stack a = refl
  r-more_patterns (p ∷ ps) rest stack a =
      ap (over (λ ls. level stack ∷ level stack ∷ level stack ∷ ls))
      (r-names p.params (more_patterns ps rest) (MorePatterns ∷ stack) a.0
      ∙ ap (over (names_levels (level stack) p.params)) (r-more_patterns ps rest stack a.1))

  pub no-bar-definitions : (ds : Definitions) (rest : List Terminal) → NoBar rest
      → NoBar (more_definitions at ds rest)
  no-bar-definitions no_definition rest n = n
  no-bar-definitions (and_also d ds) rest n = refl

  pub simple-or-end : (p : Process) (ps : Processes) (rest : List Terminal) → AreMore second p ps
      → NoBar rest → IsSimple p ⊎ NoBar (more_processes at ps rest)
  simple-or-end p none rest a n = inr n
  simple-or-end p (one_more q qs) rest a n = inl a.0

  mutual
    r-process : (p : Process) (rest : List Terminal) (stack : List Symbol) → IsProcess second p
        → IsSimple p ⊎ NoBar rest
        → run second (of_process at p rest) (AProc ∷ stack)
        ≡ over (process_levels p (level stack)) (run second rest (MoreProcs ∷ stack))
    r-process Zero rest stack i s = refl
    r-process (Msg on args) rest stack i s = ap (over (λ ls. level stack ∷ level stack ∷ ls))
        (r-arguments args rest (MoreProcs ∷ stack) i.0 i.1)
    r-process (Go target cont) rest stack i s = refl
    r-process (Fail target cont) rest stack i s = refl
    r-process Halt rest stack i s = refl
    r-process (Add l m k) rest stack i s = r-add second at i l m k rest stack
    r-process (Same l m y z) rest stack i s = r-same second at i l m y z rest stack
    r-process (Group ps) rest stack i s =
        ap (over (λ ls. (1 + level stack) ∷ ls))
        (r-processes ps (a_sign sign.ParenRight ∷ rest) (CloseGroup ∷ MoreProcs ∷ stack) i refl)
    r-process (Def ds ps) rest stack i (inl s) = absurd s
    r-process (Def ds ps) rest stack i (inr n) =
        r-def second (of_definitions at ds (a_key key.Inside ∷ of_processes at ps rest)) stack
        ∙ ap (over (λ ls. (1 + level stack) ∷ ls))
        (r-definitions false ds (a_key key.Inside ∷ of_processes at ps rest)
        (AKey key.Inside ∷ AProc ∷ EndDef ∷ stack) i.0 refl refl
        ∙ ap (over (λ ls. definitions_levels ds (1 + level stack) ((1 + level stack) ∷ ls)))
        (r-processes ps rest (EndDef ∷ stack) i.1 n
        ∙ ap (over (processes_levels ps (1 + level stack)))
        (pass-end rest stack ∙ sym (pass-processes rest stack n))))

    r-processes : (ps : Processes) (rest : List Terminal) (stack : List Symbol)
        → AreProcesses second ps → NoBar rest
        → run second (of_processes at ps rest) (AProc ∷ stack)
        ≡ over (processes_levels ps (level stack)) (run second rest stack)
    r-processes none rest stack a n = absurd a
    r-processes (one_more p ps) rest stack a n =
        r-process p (more_processes at ps rest) stack a.0 (simple-or-end p ps rest a.1 n)
        ∙ ap (over (process_levels p (level stack))) (r-more p ps rest stack a.1 n)

    r-more : (p : Process) (ps : Processes) (rest : List Terminal) (stack : List Symbol)
        → AreMore second p ps → NoBar rest
        → run second (more_processes at ps rest) (MoreProcs ∷ stack)
        ≡ over (more_processes_levels ps (level stack)) (run second rest stack)
    r-more p none rest stack a n = pass-processes rest stack n
    r-more p (one_more q qs) rest stack a n =
        ap (over (λ ls. level stack ∷ ls))
        (r-process q (more_processes at qs rest) stack a.1 (simple-or-end q qs rest a.2 n)
        ∙ ap (over (process_levels q (level stack))) (r-more q qs rest stack a.2 n))

    -- a definition behind its name, which is taken already
    r-definition : (within : Bool) (d : Definition) (rest : List Terminal) (stack : List Symbol)
        → IsDefinition second within d → NoBar rest
        → run second (of_definition at d rest) (AName ∷ DefRest within ∷ stack)
        ≡ over (definition_levels d (level stack)) (run second rest stack)
    r-definition within (Rule [] ps) rest stack i n = absurd i.0
    r-definition within (Rule (p ∷ pats) ps) rest stack i n =
        ap (over (λ ls. level stack ∷ level stack ∷ ls))
        (r-names p.params (more_patterns pats (of_processes at ps rest))
        (MorePatterns ∷ AProc ∷ stack) i.1.0
        ∙ ap (over (names_levels (level stack) p.params))
        (r-more_patterns pats (of_processes at ps rest) (AProc ∷ stack) i.1.1
        ∙ ap (over (more_patterns_levels (level stack) pats)) (r-processes ps rest stack i.2 n)))
    r-definition true (Place opener name ds ps) rest stack i n = absurd i
    r-definition false (Place opener name ds ps) rest stack i n =
        ap (over (λ ls. level stack ∷ (1 + level stack) ∷ ls))
        (r-definitions true ds
        (a_sign sign.Colon ∷ of_processes at ps (a_sign sign.SquareRight ∷ rest))
        (ASign sign.Colon ∷ AProc ∷ CloseSquare ∷ stack) i.1 refl refl
        ∙ ap (over (λ ls. definitions_levels ds (1 + level stack) ((1 + level stack) ∷ ls)))
        (r-processes ps (a_sign sign.SquareRight ∷ rest) (CloseSquare ∷ stack) i.2 refl))

    r-definitions : (within : Bool) (ds : Definitions) (rest : List Terminal) (stack : List Symbol)
        → AreDefinitions second within ds → NoBar rest → NoAnd rest
        → run second (of_definitions at ds rest) (Defs within ∷ stack)
        ≡ over (definitions_levels ds (level stack)) (run second rest stack)
    r-definitions within no_definition rest stack a n k = refl
    r-definitions within (and_also d ds) rest stack a n k =
        first within d (more_definitions at ds rest) stack a.0
        ∙ r-definition within d (more_definitions at ds rest) (MoreDefs within ∷ stack)
        a.0 (no-bar-definitions ds rest n)
        ∙ ap (over (definition_levels d (level stack)))
        (r-more_definitions within ds rest stack a.1 n k)
      where
        first : (within : Bool) (d : Definition) (rest : List Terminal) (stack : List Symbol)
            → IsDefinition second within d
            → run second (of_definition at d rest) (Defs within ∷ stack)
            ≡ run second (of_definition at d rest)
            (AName ∷ DefRest within ∷ MoreDefs within ∷ stack)
        first within (Rule [] ps) rest stack i = absurd i.0
        first within (Rule (p ∷ pats) ps) rest stack i = refl
        first within (Place opener name ds ps) rest stack i = refl

    r-more_definitions :
        (within : Bool) (ds : Definitions) (rest : List Terminal) (stack : List Symbol)
        → AreDefinitions second within ds → NoBar rest → NoAnd rest
        → run second (more_definitions at ds rest) (MoreDefs within ∷ stack)
        ≡ over (more_definitions_levels ds (level stack)) (run second rest stack)
    r-more_definitions within no_definition rest stack a n k = pass-definitions rest within stack k
    r-more_definitions within (and_also d ds) rest stack a n k =
        ap (over (λ ls. level stack ∷ ls))
        (r-definition within d (more_definitions at ds rest) (MoreDefs within ∷ stack)
        a.0 (no-bar-definitions ds rest n)
        ∙ ap (over (definition_levels d (level stack)))
        (r-more_definitions within ds rest stack a.1 n k))

  r-sites : (sites : List PlaceTree) → AreSites second sites
      → run second (of_sites at sites []) (Sites ∷ []) ≡ (sites_levels sites [], true)
  r-sites [] a = refl
  r-sites (s ∷ sites) a =
      ap (over (λ ls. 0 ∷ 0 ∷ 1 ∷ ls))
      (r-definitions false (definitions s.defs) (a_sign sign.Colon
      ∷ of_processes at (processes s.body) (a_sign sign.SquareRight ∷ of_sites at sites []))
      (ASign sign.Colon ∷ AProc ∷ CloseSquare ∷ Sites ∷ []) a.0 refl refl
      ∙ ap (over (λ ls. definitions_levels (definitions s.defs) 1 (1 ∷ ls)))
      (r-processes (processes s.body) (a_sign sign.SquareRight ∷ of_sites at sites [])
      (CloseSquare ∷ Sites ∷ []) a.1 refl
      ∙ ap (over (λ ls. processes_levels (processes s.body) 1 (0 ∷ ls))) (r-sites sites a.2)))

  r-program : (seen : List SeenTree) (s : PlaceTree) (sites : List PlaceTree) → AreDeclarations seen
      → AreSites second (s ∷ sites)
      → run second (of_declarations at seen (of_sites at (s ∷ sites) [])) (Program ∷ [])
      ≡ (declarations_levels seen (sites_levels (s ∷ sites) []), true)
  r-program [] s sites a b = r-sites (s ∷ sites) b
  r-program (d ∷ seen) s sites a b =
      let t : leb d.count 255 ≡ true = grind (arith, nat_tests) in
      rw t (ap (over (λ ls. 0 ∷ 0 ∷ 0 ∷ 0 ∷ 0 ∷ ls)) (r-program seen s sites a.1 b))

-- what says that a text is of the second version
r-opening : (second : Bool) (at : Places) (rest : List Terminal)
    → run second (opening at second rest) (start second)
    ≡ over (opening_levels second) (run second rest (Program ∷ []))
r-opening true at rest = refl
r-opening false at rest = refl

-- A sentence is accepted whole, and the levels along it are those of its tree.
pub run-sentence : (second : Bool) (at : Places) (t : TreeOfText) → is_second t.version ≡ second
    → IsGrammatical t → run second (sentence at t) (start second) ≡ (levels t, true)
run-sentence second at t e g =
    rw (← e)
    (r-opening (is_second t.version) at (of_declarations at t.seen (of_sites at t.sites []))
    ∙ ap (over (opening_levels (is_second t.version))) (some t.sites g.some_site g.sites))
  where
    some : (sites : List PlaceTree) → IsNotEmpty sites → AreSites (is_second t.version) sites
        → run (is_second t.version) (of_declarations at t.seen (of_sites at sites []))
        (Program ∷ []) ≡ (declarations_levels t.seen (sites_levels sites []), true)
    some [] i a = absurd i
    some (s ∷ sites) i a = r-program (is_second t.version) at t.seen s sites g.seen a
