-- The grammar: which trees there are, and the sentence of each. A part's terminals are written
-- followed by the rest.
use Rattle.std.specs.Prelude.{◌≡◌, ◌⊎◌, ◌≤◌, ◌==◌, ℕ, Bool, true, false, List, [], ◌∷◌}
use Rattle.std.specs.Prelude.{IsTrue, length}
use Rattle.join_lex.specs.declared.token.Key.TheVariants as key
use Rattle.join_lex.specs.declared.token.Sign.TheVariants as sign
use Rattle.join_lex.specs.declared.token.Token.{Token}
use Rattle.join_lex.specs.Versions.{version_word}
use Rattle.join_parse.specs.declared.word.Word.{Word}
use Rattle.join_parse.specs.declared.word.Arg.{Arg}
use Rattle.join_parse.specs.declared.word.Arg.TheVariants as arg
use Rattle.join_parse.specs.declared.word.PatTree.{PatTree}
use Rattle.join_parse.specs.declared.word.SeenTree.{SeenTree}
use Rattle.join_parse.specs.declared.tree.PlaceTree.{PlaceTree}
use Rattle.join_parse.specs.Terminals.{Terminal, a_name, a_number, a_site, a_key, a_sign}
use Rattle.join_parse.specs.Terminals.{terminals, named, argument}
use Rattle.join_parse.specs.Source.{Process, Zero, Msg, Go, Fail, Halt, Add, Same}
use Rattle.join_parse.specs.Source.{Group, Def, Processes, none, one_more, Definition, Rule}
use Rattle.join_parse.specs.Source.{Place, Definitions}
use Rattle.join_parse.specs.Source.{no_definition, and_also, processes, definitions}

-- the version of the language, the declarations of observed names, and the sites
pub record TreeOfText : Type 0 where
  pub version : ℕ
  pub seen : List SeenTree
  pub sites : List PlaceTree

abbrev pub is_second : ℕ → Bool
is_second version = version == 2

abbrev pub version_number : Bool → ℕ
version_number true = 2
version_number false = 1

-- A tree doesn't keep where its inert processes, its counts and its version stand. `Places` says
-- where the token stands that has so many behind it.
abbrev pub Places : Type 0
Places = ℕ → ℕ

-- all at the text's begin
abbrev pub nowhere : Places
nowhere behind = 0

-- a name or a number whose place isn't kept
abbrev pub unplaced_name : Places → List ℕ → List Terminal → List Terminal
unplaced_name at text rest = a_name text (at (length rest)) ∷ rest

abbrev pub unplaced : Places → ℕ → List Terminal → List Terminal
unplaced at value rest = a_number value (at (length rest)) ∷ rest

-- { "," ident } ")"
abbrev pub more_names : List Word → List Terminal → List Terminal
more_names [] rest = a_sign sign.ParenRight ∷ rest
more_names (w ∷ ws) rest = a_sign sign.Comma ∷ named w ∷ more_names ws rest

-- [ ident { "," ident } ] ")"
abbrev pub names : List Word → List Terminal → List Terminal
names [] rest = a_sign sign.ParenRight ∷ rest
names (w ∷ ws) rest = named w ∷ more_names ws rest

-- ident "(" [ ident { "," ident } ] ")"
abbrev pub applied : Word → List Word → List Terminal → List Terminal
applied on ws rest = named on ∷ a_sign sign.ParenLeft ∷ names ws rest

-- { "," arg } ")"
abbrev pub more_args : List Arg → List Terminal → List Terminal
more_args [] rest = a_sign sign.ParenRight ∷ rest
more_args (a ∷ vs) rest = a_sign sign.Comma ∷ argument a ∷ more_args vs rest

-- [ arg { "," arg } ] ")"
abbrev pub arguments : List Arg → List Terminal → List Terminal
arguments [] rest = a_sign sign.ParenRight ∷ rest
arguments (a ∷ vs) rest = argument a ∷ more_args vs rest

-- ident "(" [ arg { "," arg } ] ")"
abbrev pub of_message : Word → List Arg → List Terminal → List Terminal
of_message on vs rest = named on ∷ a_sign sign.ParenLeft ∷ arguments vs rest

-- { "|" pattern } "=>"
abbrev pub more_patterns : List PatTree → List Terminal → List Terminal
more_patterns [] rest = a_sign sign.Arrow ∷ rest
more_patterns (p ∷ ps) rest = a_sign sign.Bar ∷ applied p.on p.params (more_patterns ps rest)

-- pattern { "|" pattern } "=>"
abbrev pub patterns : List PatTree → List Terminal → List Terminal
patterns [] rest = a_sign sign.Arrow ∷ rest
patterns (p ∷ ps) rest = applied p.on p.params (more_patterns ps rest)

-- "(" ident "," ident ")"
abbrev pub pair : Word → Word → List Terminal → List Terminal
pair one other rest =
    a_sign sign.ParenLeft ∷ named one ∷ a_sign sign.Comma ∷ named other ∷ a_sign sign.ParenRight
    ∷ rest

-- "(" arg "," arg
abbrev pub operands : Arg → Arg → List Terminal → List Terminal
operands left right rest =
    a_sign sign.ParenLeft ∷ argument left ∷ a_sign sign.Comma ∷ argument right ∷ rest

-- "," ident ")"
abbrev pub closing_name : Word → List Terminal → List Terminal
closing_name word rest = a_sign sign.Comma ∷ named word ∷ a_sign sign.ParenRight ∷ rest

abbrev mutual
  -- zero, a message, a request, an operation, a group, or `def` with its definitions and its
  -- process
  pub of_process : Places → Process → List Terminal → List Terminal
  of_process at Zero rest = unplaced at 0 rest
  of_process at (Msg on args) rest = of_message on args rest
  of_process at (Go target cont) rest = a_key key.Go ∷ pair target cont rest
  of_process at (Fail target cont) rest = a_key key.Fail ∷ pair target cont rest
  of_process at Halt rest = a_key key.Halt ∷ a_sign sign.ParenLeft ∷ a_sign sign.ParenRight ∷ rest
  of_process at (Add left right cont) rest =
      a_key key.Add ∷ operands left right (closing_name cont rest)
  of_process at (Same left right alike apart) rest =
      a_key key.Same
      ∷ operands left right (a_sign sign.Comma ∷ named alike ∷ closing_name apart rest)
  of_process at (Group ps) rest =
      a_sign sign.ParenLeft ∷ of_processes at ps (a_sign sign.ParenRight ∷ rest)
  of_process at (Def ds ps) rest =
      a_key key.Def ∷ of_definitions at ds (a_key key.Inside ∷ of_processes at ps rest)

  -- processes with "|" between them
  pub of_processes : Places → Processes → List Terminal → List Terminal
  of_processes at none rest = rest
  of_processes at (one_more p ps) rest = of_process at p (more_processes at ps rest)

  pub more_processes : Places → Processes → List Terminal → List Terminal
  more_processes at none rest = rest
  more_processes at (one_more p ps) rest =
      a_sign sign.Bar ∷ of_process at p (more_processes at ps rest)

  -- pattern { "|" pattern } "=>" proc, or ident "[" rules ":" proc "]"
  pub of_definition : Places → Definition → List Terminal → List Terminal
  of_definition at (Rule pats ps) rest = patterns pats (of_processes at ps rest)
  of_definition at (Place opener name ds ps) rest =
      named name ∷ a_sign sign.SquareLeft ∷ of_definitions at ds
      (a_sign sign.Colon ∷ of_processes at ps (a_sign sign.SquareRight ∷ rest))

  -- "none", or definitions with "and" between them
  pub of_definitions : Places → Definitions → List Terminal → List Terminal
  of_definitions at no_definition rest = a_key key.Void ∷ rest
  of_definitions at (and_also d ds) rest = of_definition at d (more_definitions at ds rest)

  pub more_definitions : Places → Definitions → List Terminal → List Terminal
  more_definitions at no_definition rest = rest
  more_definitions at (and_also d ds) rest =
      a_key key.And ∷ of_definition at d (more_definitions at ds rest)

-- { "observe" ident "/" count ";" }
abbrev pub of_declarations : Places → List SeenTree → List Terminal → List Terminal
of_declarations at [] rest = rest
of_declarations at (d ∷ ds) rest =
    a_key key.Observe ∷ named d.name ∷ a_sign sign.Slash
    ∷ unplaced at d.count (a_sign sign.Semicolon ∷ of_declarations at ds rest)

-- { "site" ident "[" defs ":" proc "]" }
abbrev pub of_sites : Places → List PlaceTree → List Terminal → List Terminal
of_sites at [] rest = rest
of_sites at (s ∷ ss) rest =
    a_site s.opener ∷ named s.name ∷ a_sign sign.SquareLeft ∷ of_definitions at (definitions s.defs)
    (a_sign sign.Colon ∷ of_processes at (processes s.body)
    (a_sign sign.SquareRight ∷ of_sites at ss rest))

-- "version" 2 ";" in a text of the second version
abbrev pub opening : Places → Bool → List Terminal → List Terminal
opening at false rest = rest
opening at true rest = unplaced_name at version_word (unplaced at 2 (a_sign sign.Semicolon ∷ rest))

abbrev pub sentence : Places → TreeOfText → List Terminal
sentence at t =
    opening at (is_second t.version) (of_declarations at t.seen (of_sites at t.sites []))

abbrev pub IsNotEmpty : {A : Type 0} → List A → Type 0
IsNotEmpty [] = ⊥
IsNotEmpty (x ∷ xs) = Unit {0}

abbrev pub AreShort : List PatTree → Type 0
AreShort [] = Unit {0}
AreShort (p ∷ ps) = (length p.params ≤ 255) × AreShort ps

-- whatever may be followed by another process in parallel: all but a `def`, which extends as far
-- right as it can
abbrev pub IsSimple : Process → Type 0
IsSimple (Def ds ps) = ⊥
IsSimple p = Unit {0}

-- A number is an argument in the second version alone.
abbrev pub IsArgument : Bool → Arg → Type 0
IsArgument second (arg.Word word) = Unit {0}
IsArgument second (arg.Num value place) = IsTrue second

abbrev pub AreArguments : Bool → List Arg → Type 0
AreArguments second [] = Unit {0}
AreArguments second (a ∷ vs) = IsArgument second a × AreArguments second vs

-- The trees of the grammar. `second` says whether the text is of the second version, which alone
-- has operations. `within` says whether the definitions are those of a place that isn't a site:
-- these are rules alone.
abbrev mutual
  pub IsProcess : Bool → Process → Type 0
  IsProcess second Zero = Unit {0}
  IsProcess second (Msg on args) = (length args ≤ 255) × AreArguments second args
  IsProcess second (Go target cont) = Unit {0}
  IsProcess second (Fail target cont) = Unit {0}
  IsProcess second Halt = Unit {0}
  IsProcess second (Add left right cont) = IsTrue second
  IsProcess second (Same left right alike apart) = IsTrue second
  IsProcess second (Group ps) = AreProcesses second ps
  IsProcess second (Def ds ps) = AreDefinitions second false ds × AreProcesses second ps

  -- one or more, of which only the last may be a `def`
  pub AreProcesses : Bool → Processes → Type 0
  AreProcesses second none = ⊥
  AreProcesses second (one_more p ps) = IsProcess second p × AreMore second p ps

  pub AreMore : Bool → Process → Processes → Type 0
  AreMore second p none = Unit {0}
  AreMore second p (one_more q ps) = IsSimple p × IsProcess second q × AreMore second q ps

  pub IsDefinition : Bool → Bool → Definition → Type 0
  IsDefinition second within (Rule pats ps) =
      IsNotEmpty pats × AreShort pats × AreProcesses second ps
  IsDefinition second true (Place opener name ds ps) = ⊥
  IsDefinition second false (Place opener name ds ps) =
      (opener ≡ name.place) × AreDefinitions second true ds × AreProcesses second ps

  pub AreDefinitions : Bool → Bool → Definitions → Type 0
  AreDefinitions second within no_definition = Unit {0}
  AreDefinitions second within (and_also d ds) =
      IsDefinition second within d × AreDefinitions second within ds

abbrev pub AreDeclarations : List SeenTree → Type 0
AreDeclarations [] = Unit {0}
AreDeclarations (d ∷ ds) = (d.count ≤ 255) × AreDeclarations ds

abbrev pub AreSites : Bool → List PlaceTree → Type 0
AreSites second [] = Unit {0}
AreSites second (s ∷ ss) =
    AreDefinitions second false (definitions s.defs) × AreProcesses second (processes s.body)
    × AreSites second ss

-- a tree of the grammar, of any depth
pub record IsGrammatical (t : TreeOfText) : Type 0 where
  pub version : (t.version ≡ 1) ⊎ (t.version ≡ 2)
  pub seen : AreDeclarations t.seen
  pub some_site : IsNotEmpty t.sites
  pub sites : AreSites (is_second t.version) t.sites

-- The tokens are the sentence of this tree.
pub record IsSentence (tokens : List Token) (t : TreeOfText) : Type 0 where
  pub grammatical : IsGrammatical t
  pub at : Places
  pub spelled : terminals tokens ≡ sentence at t
