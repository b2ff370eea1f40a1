-- What may begin a sentence: the grammar's rules with each place in them.
use Rattle.std.specs.Prelude.{ℕ, ◌+◌, ◌≤◌, ◌<◌, Bool, true, false, IsTrue, List, [], ◌∷◌}
use Rattle.std.specs.Prelude.{◌++◌}
use Rattle.join_lex.specs.declared.token.Key.{Key}
use Rattle.join_lex.specs.declared.token.Key.TheVariants as key
use Rattle.join_lex.specs.declared.token.Sign.{Sign}
use Rattle.join_lex.specs.declared.token.Sign.TheVariants as sign
use Rattle.join_lex.specs.declared.token.Token.{Token}
use Rattle.join_lex.specs.Versions.{version_word}
use Rattle.join_parse.specs.Terminals.{Terminal, a_name, a_number, a_site, a_key, a_sign, terminals}

-- what a place in a rule expects
pub data Symbol : Type 0 where
  AName : Symbol  -- an identifier
  AVersion : Symbol  -- the identifier `version`
  ATwo : Symbol  -- a number whose value is 2
  AZero : Symbol  -- a number whose value is 0
  ACount : Symbol  -- a number of at most 255
  ASite : Symbol  -- `site`
  AKey : Key → Symbol
  ASign : Sign → Symbol
  CloseGroup : Symbol  -- the `)` of a group
  CloseSquare : Symbol  -- the `]` of a site or place
  EndDef : Symbol  -- nothing: the end of a `def`
  Program : Symbol  -- { observe } site { site }
  Sites : Symbol  -- { site }
  Body : Bool → Symbol  -- "[" defs ":" proc "]" of a site, or of a place within one
  Defs : Bool → Symbol  -- defs, or the rules of a place within a site
  MoreDefs : Bool → Symbol  -- { "and" defn }
  DefRest : Bool → Symbol  -- a definition behind its first identifier
  MorePatterns : Symbol  -- { "|" pattern } "=>"
  Names : Symbol  -- [ ident { "," ident } ] ")"
  MoreNames : ℕ → Symbol  -- { "," ident } ")" behind so many identifiers
  ANumber : Symbol  -- a number, as an argument
  AnArg : Symbol  -- arg
  Args : Symbol  -- [ arg { "," arg } ] ")"
  MoreArgs : ℕ → Symbol  -- { "," arg } ")" behind so many arguments
  AProc : Symbol  -- proc
  MoreProcs : Symbol  -- [ "|" proc ]

-- the rules of a text that is of the second version, or isn't: a symbol and one of its alternatives
pub data Alternative (second : Bool) : Symbol → List Symbol → Type 0 where
  observed : Alternative second Program
      (AKey key.Observe ∷ AName ∷ ASign sign.Slash ∷ ACount ∷ ASign sign.Semicolon ∷ Program ∷ [])
  first_site : Alternative second Program (ASite ∷ AName ∷ Body false ∷ Sites ∷ [])
  last_site : Alternative second Sites []
  next_site : Alternative second Sites (ASite ∷ AName ∷ Body false ∷ Sites ∷ [])
  body : (within : Bool)
      → Alternative second (Body within)
      (ASign sign.SquareLeft ∷ Defs within ∷ ASign sign.Colon ∷ AProc ∷ CloseSquare ∷ [])
  void : (within : Bool) → Alternative second (Defs within) (AKey key.Void ∷ [])
  first_definition : (within : Bool)
      → Alternative second (Defs within) (AName ∷ DefRest within ∷ MoreDefs within ∷ [])
  last_definition : (within : Bool) → Alternative second (MoreDefs within) []
  next_definition : (within : Bool)
      → Alternative second (MoreDefs within)
      (AKey key.And ∷ AName ∷ DefRest within ∷ MoreDefs within ∷ [])
  rule : (within : Bool)
      → Alternative second (DefRest within)
      (ASign sign.ParenLeft ∷ Names ∷ MorePatterns ∷ AProc ∷ [])
  place : Alternative second (DefRest false) (Body true ∷ [])
  last_pattern : Alternative second MorePatterns (ASign sign.Arrow ∷ [])
  next_pattern : Alternative second MorePatterns
      (ASign sign.Bar ∷ AName ∷ ASign sign.ParenLeft ∷ Names ∷ MorePatterns ∷ [])
  no_name : Alternative second Names (ASign sign.ParenRight ∷ [])
  first_name : Alternative second Names (AName ∷ MoreNames 1 ∷ [])
  last_name : (n : ℕ) → Alternative second (MoreNames n) (ASign sign.ParenRight ∷ [])
  next_name : (n : ℕ) → n < 255
      → Alternative second (MoreNames n) (ASign sign.Comma ∷ AName ∷ MoreNames (n + 1) ∷ [])
  word_arg : Alternative second AnArg (AName ∷ [])
  number_arg : IsTrue second → Alternative second AnArg (ANumber ∷ [])
  no_arg : Alternative second Args (ASign sign.ParenRight ∷ [])
  first_arg : Alternative second Args (AnArg ∷ MoreArgs 1 ∷ [])
  last_arg : (n : ℕ) → Alternative second (MoreArgs n) (ASign sign.ParenRight ∷ [])
  next_arg : (n : ℕ) → n < 255
      → Alternative second (MoreArgs n) (ASign sign.Comma ∷ AnArg ∷ MoreArgs (n + 1) ∷ [])
  zero : Alternative second AProc (AZero ∷ MoreProcs ∷ [])
  message : Alternative second AProc (AName ∷ ASign sign.ParenLeft ∷ Args ∷ MoreProcs ∷ [])
  go : Alternative second AProc
      (AKey key.Go ∷ ASign sign.ParenLeft ∷ AName ∷ ASign sign.Comma ∷ AName
      ∷ ASign sign.ParenRight ∷ MoreProcs ∷ [])
  fail : Alternative second AProc
      (AKey key.Fail ∷ ASign sign.ParenLeft ∷ AName ∷ ASign sign.Comma ∷ AName
      ∷ ASign sign.ParenRight ∷ MoreProcs ∷ [])
  halt : Alternative second AProc
      (AKey key.Halt ∷ ASign sign.ParenLeft ∷ ASign sign.ParenRight ∷ MoreProcs ∷ [])
  group : Alternative second AProc (ASign sign.ParenLeft ∷ AProc ∷ CloseGroup ∷ MoreProcs ∷ [])
  add : IsTrue second → Alternative second AProc
      (AKey key.Add ∷ ASign sign.ParenLeft ∷ AnArg ∷ ASign sign.Comma ∷ AnArg ∷ ASign sign.Comma
      ∷ AName ∷ ASign sign.ParenRight ∷ MoreProcs ∷ [])
  same : IsTrue second → Alternative second AProc
      (AKey key.Same ∷ ASign sign.ParenLeft ∷ AnArg ∷ ASign sign.Comma ∷ AnArg ∷ ASign sign.Comma
      ∷ AName ∷ ASign sign.Comma ∷ AName ∷ ASign sign.ParenRight ∷ MoreProcs ∷ [])
  def_in : Alternative second AProc
      (AKey key.Def ∷ Defs false ∷ AKey key.Inside ∷ AProc ∷ EndDef ∷ [])
  last_process : Alternative second MoreProcs []
  next_process : Alternative second MoreProcs (ASign sign.Bar ∷ AProc ∷ [])
  end_def : Alternative second EndDef []

-- the terminals for which a symbol stands
pub data StandsFor : Symbol → Terminal → Type 0 where
  name_stands : (text : List ℕ) (place : ℕ) → StandsFor AName (a_name text place)
  version_stands : (place : ℕ) → StandsFor AVersion (a_name version_word place)
  two_stands : (place : ℕ) → StandsFor ATwo (a_number 2 place)
  zero_stands : (place : ℕ) → StandsFor AZero (a_number 0 place)
  count_stands : (n place : ℕ) → n ≤ 255 → StandsFor ACount (a_number n place)
  number_stands : (n place : ℕ) → StandsFor ANumber (a_number n place)
  site_stands : (place : ℕ) → StandsFor ASite (a_site place)
  key_stands : (k : Key) → StandsFor (AKey k) (a_key k)
  sign_stands : (s : Sign) → StandsFor (ASign s) (a_sign s)
  group_stands : StandsFor CloseGroup (a_sign sign.ParenRight)
  square_stands : StandsFor CloseSquare (a_sign sign.SquareRight)

-- Where the first symbols are expected, in order, these terminals lead to where the second are. The
-- terminals may end at any place in any rule.
pub data Leads (second : Bool) : List Symbol → List Terminal → List Symbol → Type 0 where
  ends : (stack : List Symbol) → Leads second stack [] stack
  takes : (s : Symbol) (t : Terminal) (stack : List Symbol) (ts : List Terminal)
      (after : List Symbol) → StandsFor s t → Leads second stack ts after
      → Leads second (s ∷ stack) (t ∷ ts) after
  opens : (s : Symbol) (alternative stack : List Symbol) (ts : List Terminal) (after : List Symbol)
      → Alternative second s alternative → Leads second (alternative ++ stack) ts after
      → Leads second (s ∷ stack) ts after

-- what a text of the second version expects, and what one of the first does
abbrev pub start : Bool → List Symbol
start true = AVersion ∷ ATwo ∷ ASign sign.Semicolon ∷ Program ∷ []
start false = Program ∷ []

-- The tokens begin a sentence of the second version, or of the first.
abbrev pub Begins : Bool → List Token → Type 0
Begins second tokens = (after : List Symbol) × Leads second (start second) (terminals tokens) after

-- The shortest completion of a symbol, followed by the rest.
abbrev pub completed : Symbol → List Terminal → List Terminal
completed AName rest = a_name (120 ∷ []) 0 ∷ rest
completed AVersion rest = a_name version_word 0 ∷ rest
completed ATwo rest = a_number 2 0 ∷ rest
completed AZero rest = a_number 0 0 ∷ rest
completed ACount rest = a_number 0 0 ∷ rest
completed ASite rest = a_site 0 ∷ rest
completed (AKey k) rest = a_key k ∷ rest
completed (ASign s) rest = a_sign s ∷ rest
completed CloseGroup rest = a_sign sign.ParenRight ∷ rest
completed CloseSquare rest = a_sign sign.SquareRight ∷ rest
completed EndDef rest = rest
completed Program rest =
    a_site 0 ∷ a_name (120 ∷ []) 0 ∷ a_sign sign.SquareLeft ∷ a_key key.Void ∷ a_sign sign.Colon
    ∷ a_number 0 0 ∷ a_sign sign.SquareRight ∷ rest
completed Sites rest = rest
completed (Body within) rest =
    a_sign sign.SquareLeft ∷ a_key key.Void ∷ a_sign sign.Colon ∷ a_number 0 0
    ∷ a_sign sign.SquareRight ∷ rest
completed (Defs within) rest = a_key key.Void ∷ rest
completed (MoreDefs within) rest = rest
completed (DefRest within) rest =
    a_sign sign.ParenLeft ∷ a_sign sign.ParenRight ∷ a_sign sign.Arrow ∷ a_number 0 0 ∷ rest
completed MorePatterns rest = a_sign sign.Arrow ∷ rest
completed Names rest = a_sign sign.ParenRight ∷ rest
completed (MoreNames n) rest = a_sign sign.ParenRight ∷ rest
completed ANumber rest = a_number 0 0 ∷ rest
completed AnArg rest = a_name (120 ∷ []) 0 ∷ rest
completed Args rest = a_sign sign.ParenRight ∷ rest
completed (MoreArgs n) rest = a_sign sign.ParenRight ∷ rest
completed AProc rest = a_number 0 0 ∷ rest
completed MoreProcs rest = rest

abbrev pub completion : List Symbol → List Terminal
completion [] = []
completion (s ∷ stack) = completed s (completion stack)
