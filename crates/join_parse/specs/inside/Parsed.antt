-- What a part of the parser answers, in the terms of its twin.
use Rattle.std.specs.Prelude.{Bool, false, ◌≡◌, ℕ, ◌≤◌, ◌<◌, List, [], ◌∷◌, ◌++◌, length, drop}
use Rattle.std.specs.Prelude.{Result, Ok, Err, ◌==◌, if◌then◌else◌}
use Rattle.join_base.specs.declared.fault.Front.{Front}
use Rattle.join_base.specs.declared.fault.Front.TheVariants.{Refused, Memory}
use Rattle.join_lex.specs.declared.token.Key.{Key}
use Rattle.join_lex.specs.declared.token.Key.TheVariants as key
use Rattle.join_lex.specs.declared.token.Sign.{Sign}
use Rattle.join_lex.specs.declared.token.Token.{Token}
use Rattle.join_parse.specs.declared.bounds.Bounds.{Bounds}
use Rattle.join_parse.specs.declared.word.SeenTree.{SeenTree}
use Rattle.join_parse.specs.declared.tree.PlaceTree.{PlaceTree}
use Rattle.join_parse.specs.Terminals.{Terminal, a_site, a_key, a_sign, terminals, named}
use Rattle.join_parse.specs.Terminals.{key_terminal}
use Rattle.join_lex.specs.declared.token.Sign.TheVariants as sign
use Rattle.join_parse.specs.Source.{Process, Definition, processes, definitions}
use Rattle.join_parse.specs.Grammar.{Places, unplaced}
use Rattle.join_parse.specs.Grammar.{of_process, of_processes, of_definition, of_definitions}
use Rattle.join_parse.specs.Grammar.{IsProcess, AreProcesses, IsDefinition, AreDefinitions}
use Rattle.join_parse.specs.Begins.{Symbol, ASite, AKey, AName, AnArg, ACount, ASign, Names, Args}
use Rattle.join_parse.specs.Begins.{MorePatterns, Body, Sites, start}
use Rattle.join_parse.specs.inside.Automaton.{is_key, is_sign, is_name, is_number, is_zero, level}
use Rattle.join_parse.specs.inside.Automaton.{Stop, outcome}

-- the terminals from a token on
abbrev pub terms : List Token → ℕ → List Terminal
terms ts at = terminals (drop at ts)

-- where the token stands that has so many behind it
abbrev pub places : List Token → Places
places [] behind = 0
places (t ∷ ts) behind = if behind == length ts then t.span.from else places ts behind

-- what comes next
abbrev pub next_is_sign : Sign → List Token → Bool
next_is_sign s [] = false
next_is_sign s (t ∷ ts) = is_sign s t.kind

abbrev pub next_is_key : Key → List Token → Bool
next_is_key k [] = false
next_is_key k (t ∷ ts) = is_key k t.kind

abbrev pub next_is_name : List Token → Bool
next_is_name [] = false
next_is_name (t ∷ ts) = is_name t.kind

abbrev pub next_is_number : List Token → Bool
next_is_number [] = false
next_is_number (t ∷ ts) = is_number t.kind

abbrev pub next_is_zero : List Token → Bool
next_is_zero [] = false
next_is_zero (t ∷ ts) = is_zero t.kind

-- the place of what comes next
abbrev pub place_of : ℕ → List Token → ℕ
place_of end [] = end
place_of end (t ∷ ts) = t.span.from

-- the symbol of a keyword
abbrev pub key_symbol : Key → Symbol
key_symbol key.Site = ASite
key_symbol k = AKey k

-- the keyword that stands here
abbrev pub key_here : Key → List Token → ℕ → Terminal
key_here k ts at = key_terminal k (place_of 0 (drop at ts))

-- from one token to another this terminal is all that is read
abbrev pub SpellsOne : List Token → ℕ → Terminal → ℕ → Type 0
SpellsOne ts at t upto = terms ts at ≡ t ∷ terms ts upto

-- from one token to another this number is all that is read, and its place isn't kept
abbrev pub SpellsNumber : List Token → ℕ → ℕ → ℕ → Type 0
SpellsNumber ts at n upto = terms ts at ≡ unplaced (places ts) n (terms ts upto)

-- a message, and the arguments that an operation works on
abbrev pub a_message : List Symbol
a_message = AName ∷ ASign sign.ParenLeft ∷ Args ∷ []

abbrev pub some_operands : List Symbol
some_operands = ASign sign.ParenLeft ∷ AnArg ∷ ASign sign.Comma ∷ AnArg ∷ []

abbrev pub a_closing_name : List Symbol
a_closing_name = ASign sign.Comma ∷ AName ∷ ASign sign.ParenRight ∷ []

-- an operation behind its keyword
abbrev pub an_addition : List Symbol
an_addition =
    ASign sign.ParenLeft ∷ AnArg ∷ ASign sign.Comma ∷ AnArg ∷ ASign sign.Comma ∷ AName
    ∷ ASign sign.ParenRight ∷ []

abbrev pub a_comparison : List Symbol
a_comparison =
    ASign sign.ParenLeft ∷ AnArg ∷ ASign sign.Comma ∷ AnArg ∷ ASign sign.Comma ∷ AName
    ∷ ASign sign.Comma ∷ AName ∷ ASign sign.ParenRight ∷ []

-- a join pattern, some of them, and the two names of a request
abbrev pub a_pattern : List Symbol
a_pattern = AName ∷ ASign sign.ParenLeft ∷ Names ∷ []

abbrev pub some_patterns : List Symbol
some_patterns = AName ∷ ASign sign.ParenLeft ∷ Names ∷ MorePatterns ∷ []

abbrev pub a_pair : List Symbol
a_pair =
    ASign sign.ParenLeft ∷ AName ∷ ASign sign.Comma ∷ AName ∷ ASign sign.ParenRight ∷ []

-- a declared count, a declaration, a site, and some sites
abbrev pub a_count : List Symbol
a_count = ASign sign.Slash ∷ ACount ∷ ASign sign.Semicolon ∷ []

abbrev pub a_declaration : List Symbol
a_declaration =
    AKey key.Observe ∷ AName ∷ ASign sign.Slash ∷ ACount ∷ ASign sign.Semicolon ∷ []

abbrev pub a_whole_site : List Symbol
a_whole_site = ASite ∷ AName ∷ Body false ∷ []

abbrev pub some_sites : List Symbol
some_sites = ASite ∷ AName ∷ Body false ∷ Sites ∷ []

-- how many levels are open behind what is read
abbrev pub AtMost : ℕ → ℕ → Type 0
AtMost limit d = d ≤ limit

abbrev pub Exactly : ℕ → ℕ → Type 0
Exactly depth d = d ≡ depth

-- From one token to another these symbols become those, whatever is expected behind them.
abbrev pub Runs : Bounds → (ℕ → Type 0) → List Token → ℕ → List Symbol → ℕ → List Symbol → Type 0
Runs b P ts at ss upto more =
    (stack : List Symbol) → P (level stack)
    → outcome b (drop at ts) (ss ++ stack) ≡ outcome b (drop upto ts) (more ++ stack)

pub record Reads (b : Bounds) (P : ℕ → Type 0) (ts : List Token) (at : ℕ) (ss : List Symbol)
    (upto : ℕ) (more : List Symbol) : Type 0 where
  pub runs : Runs b P ts at ss upto more
  pub further : at < upto
  pub within : upto ≤ length ts

-- The reading of these symbols stops so, whatever is expected behind them.
abbrev pub StopsSo : Bounds → (ℕ → Type 0) → List Token → ℕ → List Symbol → Front → Type 0
StopsSo b P ts at ss (Refused kind place) =
    (stack : List Symbol) → P (level stack) → outcome b (drop at ts) (ss ++ stack) ≡ Stop kind place
StopsSo b P ts at ss Memory = Unit {0}

abbrev pub Fails : {T : Type 0} → Bounds → (ℕ → Type 0) → List Token → ℕ → List Symbol
    → Result T Front → Type 0
Fails b P ts at ss (Ok x) = Unit {0}
Fails b P ts at ss (Err e) = StopsSo b P ts at ss e

-- The reading of a whole text stops so.
abbrev pub IsStop : Bounds → List Token → Front → Type 0
IsStop b ts (Refused kind place) = outcome b ts (start b.second) ≡ Stop kind place
IsStop b ts Memory = Unit {0}

-- The tokens from one place to another are this part.
abbrev pub SpellsCount : List Token → ℕ → ℕ → ℕ → Type 0
SpellsCount ts at n upto =
    terms ts at
    ≡ a_sign sign.Slash ∷ unplaced (places ts) n (a_sign sign.Semicolon ∷ terms ts upto)

abbrev pub SpellsDeclaration : List Token → ℕ → SeenTree → ℕ → Type 0
SpellsDeclaration ts at d upto =
    terms ts at ≡ a_key key.Observe ∷ named d.name ∷ a_sign sign.Slash
    ∷ unplaced (places ts) d.count (a_sign sign.Semicolon ∷ terms ts upto)

abbrev pub SpellsProcess : Bool → List Token → ℕ → Process → ℕ → Type 0
SpellsProcess second ts at p upto =
    IsProcess second p × (terms ts at ≡ of_process (places ts) p (terms ts upto))

abbrev pub SpellsProcesses : Bool → List Token → ℕ → List Process → ℕ → Type 0
SpellsProcesses second ts at ps upto =
    AreProcesses second (processes ps)
    × (terms ts at ≡ of_processes (places ts) (processes ps) (terms ts upto))

abbrev pub SpellsDefinition : Bool → List Token → ℕ → Bool → Definition → ℕ → Type 0
SpellsDefinition second ts at within d upto =
    IsDefinition second within d × (terms ts at ≡ of_definition (places ts) d (terms ts upto))

abbrev pub SpellsDefinitions : Bool → List Token → ℕ → Bool → List Definition → ℕ → Type 0
SpellsDefinitions second ts at within ds upto =
    AreDefinitions second within (definitions ds)
    × (terms ts at ≡ of_definitions (places ts) (definitions ds) (terms ts upto))

abbrev pub SpellsBody : Bool → List Token → ℕ → Bool → List Definition → List Process → ℕ → Type 0
SpellsBody second ts at within ds ps upto =
    AreDefinitions second within (definitions ds) × AreProcesses second (processes ps)
    × (terms ts at ≡ a_sign sign.SquareLeft ∷ of_definitions (places ts) (definitions ds)
    (a_sign sign.Colon ∷ of_processes (places ts) (processes ps)
    (a_sign sign.SquareRight ∷ terms ts upto)))

abbrev pub SpellsSite : Bool → List Token → ℕ → PlaceTree → ℕ → Type 0
SpellsSite second ts at s upto =
    AreDefinitions second false (definitions s.defs) × AreProcesses second (processes s.body)
    × (terms ts at ≡ a_site s.opener ∷ named s.name ∷ a_sign sign.SquareLeft
    ∷ of_definitions (places ts) (definitions s.defs)
    (a_sign sign.Colon ∷ of_processes (places ts) (processes s.body)
    (a_sign sign.SquareRight ∷ terms ts upto)))
