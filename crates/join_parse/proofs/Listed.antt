-- That what was read so far begins a list, whatever comes behind it.
use Rattle.std.specs.Prelude.{Bool, ◌≡◌, ℕ, List, [], ◌∷◌, ◌++◌}
use Rattle.join_lex.specs.declared.token.Token.{Token}
use Rattle.join_parse.specs.declared.word.Word.{Word}
use Rattle.join_parse.specs.declared.word.Arg.{Arg}
use Rattle.join_parse.specs.declared.word.PatTree.{PatTree}
use Rattle.join_parse.specs.declared.word.SeenTree.{SeenTree}
use Rattle.join_parse.specs.declared.tree.PlaceTree.{PlaceTree}
use Rattle.join_parse.specs.Terminals.{Terminal}
use Rattle.join_parse.specs.Source.{Process, Processes, one_more, Definition, Definitions, and_also}
use Rattle.join_parse.specs.Grammar.{of_processes, of_definitions, more_definitions}
use Rattle.join_parse.specs.Grammar.{of_declarations, of_sites, more_names, names, more_patterns}
use Rattle.join_parse.specs.Grammar.{patterns, IsNotEmpty, AreShort, AreProcesses, AreDefinitions}
use Rattle.join_parse.specs.Grammar.{AreDeclarations, AreSites, AreArguments, more_args, arguments}
use Rattle.join_parse.specs.inside.Parsed.{terms, places}

-- What was read so far begins a list, whatever comes behind it.
abbrev pub ListedNames : List Token → ℕ → ℕ → List Word → Type 0
ListedNames ts at end list =
    (ws : List Word) (rest : List Terminal) → terms ts end ≡ more_names ws rest
    → terms ts at ≡ names (list ++ ws) rest

abbrev pub ListedArgs : Bool → List Token → ℕ → ℕ → List Arg → Type 0
ListedArgs second ts at end list =
    (vs : List Arg) (rest : List Terminal) → AreArguments second vs
    → terms ts end ≡ more_args vs rest
    → AreArguments second (list ++ vs) × (terms ts at ≡ arguments (list ++ vs) rest)

abbrev pub ListedPatterns : List Token → ℕ → ℕ → List PatTree → Type 0
ListedPatterns ts at end list =
    (ps : List PatTree) (rest : List Terminal) → AreShort ps → terms ts end ≡ more_patterns ps rest
    → IsNotEmpty (list ++ ps) × AreShort (list ++ ps) × (terms ts at ≡ patterns (list ++ ps) rest)

abbrev pub ListedDeclarations : List Token → ℕ → ℕ → List SeenTree → Type 0
ListedDeclarations ts at end list =
    (ds : List SeenTree) (rest : List Terminal) → AreDeclarations ds
    → terms ts end ≡ of_declarations (places ts) ds rest
    → AreDeclarations (list ++ ds) × (terms ts at ≡ of_declarations (places ts) (list ++ ds) rest)

abbrev pub ListedSites : Bool → List Token → ℕ → ℕ → List PlaceTree → Type 0
ListedSites second ts at end list =
    (ss : List PlaceTree) (rest : List Terminal) → AreSites second ss
    → terms ts end ≡ of_sites (places ts) ss rest
    → AreSites second (list ++ ss) × (terms ts at ≡ of_sites (places ts) (list ++ ss) rest)

-- the processes, and then others
abbrev pub joined : List Process → Processes → Processes
joined [] ps = ps
joined (p ∷ list) ps = one_more p (joined list ps)

abbrev pub ListedProcesses : Bool → List Token → ℕ → ℕ → List Process → Type 0
ListedProcesses second ts at end list =
    (ps : Processes) (rest : List Terminal) → AreProcesses second ps
    → terms ts end ≡ of_processes (places ts) ps rest
    → AreProcesses second (joined list ps)
    × (terms ts at ≡ of_processes (places ts) (joined list ps) rest)

-- the definitions, and then others
abbrev pub also : List Definition → Definitions → Definitions
also [] ds = ds
also (d ∷ list) ds = and_also d (also list ds)

abbrev pub ListedDefinitions : Bool → List Token → ℕ → ℕ → Bool → List Definition → Type 0
ListedDefinitions second ts at end within list =
    (ds : Definitions) (rest : List Terminal) → AreDefinitions second within ds
    → terms ts end ≡ more_definitions (places ts) ds rest
    → AreDefinitions second within (also list ds)
    × (terms ts at ≡ of_definitions (places ts) (also list ds) rest)
