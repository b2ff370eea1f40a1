-- The parser's twin: one token of lookahead and a stack of what is still expected.
use Rattle.std.specs.Prelude.{ℕ, ◌+◌, nat_le, nat_lt, not, Bool, true, false, List, [], ◌∷◌, ◌++◌}
use Rattle.std.specs.Prelude.{Option, Some, None, if◌then◌else◌, ◌&&◌, ◌==◌}
use Rattle.join_base.specs.declared.fault.Kind.{Kind}
use Rattle.join_base.specs.declared.fault.Kind.TheVariants.{Grammar1, Grammar2}
use Rattle.join_lex.specs.declared.token.Key.{Key}
use Rattle.join_lex.specs.declared.token.Key.TheVariants as key
use Rattle.join_lex.specs.declared.token.Sign.{Sign}
use Rattle.join_lex.specs.declared.token.Sign.TheVariants as sign
use Rattle.join_lex.specs.declared.token.Kind2.{Kind2}
use Rattle.join_lex.specs.declared.token.Kind2.TheVariants as kind
use Rattle.join_lex.specs.declared.token.Token.{Token}
use Rattle.join_lex.specs.Versions.{is_version_word, is_two}
use Rattle.join_parse.specs.declared.bounds.Bounds.{Bounds}
use Rattle.join_parse.specs.Begins.{Symbol, AName, AVersion, ATwo, AZero, ACount, ASite, AKey}
use Rattle.join_parse.specs.Begins.{ASign, CloseGroup, CloseSquare, EndDef, Program, Sites, Body}
use Rattle.join_parse.specs.Begins.{Defs, MoreDefs, DefRest, MorePatterns, Names, MoreNames}
use Rattle.join_parse.specs.Begins.{ANumber, AnArg, Args, MoreArgs, AProc, MoreProcs}

abbrev pub key_number : Key → ℕ
key_number key.Observe = 0
key_number key.Site = 1
key_number key.Def = 2
key_number key.Inside = 3
key_number key.And = 4
key_number key.Go = 5
key_number key.Fail = 6
key_number key.Halt = 7
key_number key.Void = 8
key_number key.Add = 9
key_number key.Same = 10

abbrev pub sign_number : Sign → ℕ
sign_number sign.Arrow = 0
sign_number sign.Colon = 1
sign_number sign.Bar = 2
sign_number sign.ParenLeft = 3
sign_number sign.ParenRight = 4
sign_number sign.SquareLeft = 5
sign_number sign.SquareRight = 6
sign_number sign.Comma = 7
sign_number sign.Semicolon = 8
sign_number sign.Slash = 9

abbrev pub is_key : Key → Kind2 → Bool
is_key k (kind.Ident t) = false
is_key k (kind.Number n) = false
is_key k (kind.Key j) = key_number j == key_number k
is_key k (kind.Sign s) = false

abbrev pub is_sign : Sign → Kind2 → Bool
is_sign s (kind.Ident t) = false
is_sign s (kind.Number n) = false
is_sign s (kind.Key j) = false
is_sign s (kind.Sign t) = sign_number t == sign_number s

abbrev pub is_name : Kind2 → Bool
is_name (kind.Ident t) = true
is_name (kind.Number n) = false
is_name (kind.Key j) = false
is_name (kind.Sign t) = false

abbrev pub is_number : Kind2 → Bool
is_number (kind.Ident t) = false
is_number (kind.Number n) = true
is_number (kind.Key j) = false
is_number (kind.Sign t) = false

abbrev pub is_zero : Kind2 → Bool
is_zero (kind.Ident t) = false
is_zero (kind.Number n) = n == 0
is_zero (kind.Key j) = false
is_zero (kind.Sign t) = false

abbrev pub is_count : Kind2 → Bool
is_count (kind.Ident t) = false
is_count (kind.Number n) = nat_le n 255
is_count (kind.Key j) = false
is_count (kind.Sign t) = false

-- A token that is expected is taken, and these are expected in the symbol's place; or the symbol
-- may be nothing, so the next one is looked at; or the token is refused.
pub data Move : Type 0 where
  Push : List Symbol → Move
  Pass : Move
  No : Move

abbrev pub step : Bool → Symbol → Kind2 → Move
step second AName k = if is_name k then Push [] else No
step second AVersion k = if is_version_word k then Push [] else No
step second ATwo k = if is_two k then Push [] else No
step second AZero k = if is_zero k then Push [] else No
step second ACount k = if is_count k then Push [] else No
step second ASite k = if is_key key.Site k then Push [] else No
step second (AKey key.Site) k = No
step second (AKey j) k = if is_key j k then Push [] else No
step second (ASign s) k = if is_sign s k then Push [] else No
step second CloseGroup k = if is_sign sign.ParenRight k then Push [] else No
step second CloseSquare k = if is_sign sign.SquareRight k then Push [] else No
step second EndDef k = Pass
step second Program k =
    if is_key key.Observe k
    then Push (AName ∷ ASign sign.Slash ∷ ACount ∷ ASign sign.Semicolon ∷ Program ∷ [])
    else if is_key key.Site k then Push (AName ∷ Body false ∷ Sites ∷ [])
    else No
step second Sites k = if is_key key.Site k then Push (AName ∷ Body false ∷ Sites ∷ []) else Pass
step second (Body within) k =
    if is_sign sign.SquareLeft k
    then Push (Defs within ∷ ASign sign.Colon ∷ AProc ∷ CloseSquare ∷ []) else No
step second (Defs within) k =
    if is_key key.Void k then Push []
    else if is_name k then Push (DefRest within ∷ MoreDefs within ∷ []) else No
step second (MoreDefs within) k =
    if is_key key.And k then Push (AName ∷ DefRest within ∷ MoreDefs within ∷ []) else Pass
step second (DefRest within) k =
    if is_sign sign.ParenLeft k then Push (Names ∷ MorePatterns ∷ AProc ∷ [])
    else if not within && is_sign sign.SquareLeft k
    then Push (Defs true ∷ ASign sign.Colon ∷ AProc ∷ CloseSquare ∷ [])
    else No
step second MorePatterns k =
    if is_sign sign.Arrow k then Push []
    else if is_sign sign.Bar k then Push (AName ∷ ASign sign.ParenLeft ∷ Names ∷ MorePatterns ∷ [])
    else No
step second Names k =
    if is_sign sign.ParenRight k then Push []
    else if is_name k then Push (MoreNames 1 ∷ []) else No
step second (MoreNames n) k =
    if is_sign sign.ParenRight k then Push []
    else if is_sign sign.Comma k && nat_lt n 255 then Push (AName ∷ MoreNames (n + 1) ∷ [])
    else No
step second ANumber k = if is_number k then Push [] else No
step second AnArg k =
    if is_name k then Push [] else if second && is_number k then Push [] else No
step second Args k =
    if is_sign sign.ParenRight k then Push []
    else if is_name k then Push (MoreArgs 1 ∷ [])
    else if second && is_number k then Push (MoreArgs 1 ∷ []) else No
step second (MoreArgs n) k =
    if is_sign sign.ParenRight k then Push []
    else if is_sign sign.Comma k && nat_lt n 255 then Push (AnArg ∷ MoreArgs (n + 1) ∷ [])
    else No
step second AProc k =
    if is_zero k then Push (MoreProcs ∷ [])
    else if is_name k then Push (ASign sign.ParenLeft ∷ Args ∷ MoreProcs ∷ [])
    else if is_sign sign.ParenLeft k then Push (AProc ∷ CloseGroup ∷ MoreProcs ∷ [])
    else if is_key key.Halt k
    then Push (ASign sign.ParenLeft ∷ ASign sign.ParenRight ∷ MoreProcs ∷ [])
    else if is_key key.Go k
    then Push (ASign sign.ParenLeft ∷ AName ∷ ASign sign.Comma ∷ AName
    ∷ ASign sign.ParenRight ∷ MoreProcs ∷ [])
    else if is_key key.Fail k
    then Push (ASign sign.ParenLeft ∷ AName ∷ ASign sign.Comma ∷ AName
    ∷ ASign sign.ParenRight ∷ MoreProcs ∷ [])
    else if second && is_key key.Add k
    then Push (ASign sign.ParenLeft ∷ AnArg ∷ ASign sign.Comma ∷ AnArg ∷ ASign sign.Comma
    ∷ AName ∷ ASign sign.ParenRight ∷ MoreProcs ∷ [])
    else if second && is_key key.Same k
    then Push (ASign sign.ParenLeft ∷ AnArg ∷ ASign sign.Comma ∷ AnArg ∷ ASign sign.Comma
    ∷ AName ∷ ASign sign.Comma ∷ AName ∷ ASign sign.ParenRight ∷ MoreProcs ∷ [])
    else if is_key key.Def k then Push (Defs false ∷ AKey key.Inside ∷ AProc ∷ EndDef ∷ [])
    else No
step second MoreProcs k = if is_sign sign.Bar k then Push (AProc ∷ []) else Pass

abbrev pub moved : Move → List Symbol → Option (List Symbol) → Option (List Symbol)
moved (Push more) stack passed = Some (more ++ stack)
moved Pass stack passed = passed
moved No stack passed = None

abbrev pub advance : Bool → List Symbol → Kind2 → Option (List Symbol)
advance second [] k = None
advance second (s ∷ stack) k = moved (step second s k) stack (advance second stack k)

-- The symbol may be nothing.
abbrev pub may_pass : Symbol → Bool
may_pass EndDef = true
may_pass Sites = true
may_pass (MoreDefs within) = true
may_pass MoreProcs = true
may_pass s = false

-- The text may end here.
abbrev pub may_end : List Symbol → Bool
may_end [] = true
may_end (s ∷ stack) = may_pass s && may_end stack

-- the levels that are open before a symbol, where so many are open behind it
abbrev pub opened : Symbol → ℕ → ℕ
opened CloseGroup d = 1 + d
opened CloseSquare d = 1 + d
opened EndDef d = 1 + d
opened s d = d

-- the levels that are open
abbrev pub level : List Symbol → ℕ
level [] = 0
level (s ∷ stack) = opened s (level stack)

-- how the tokens end, against what is expected
pub data Outcome : Type 0 where
  Whole : Outcome
  Stop : Kind → ℕ → Outcome

abbrev pub next : Bounds → (List Symbol → Outcome) → ℕ → Option (List Symbol) → Outcome
next b go place None = Stop Grammar1 place
next b go place (Some stack) =
    if nat_le (level stack) b.levels then go stack else Stop Grammar2 place

unfoldable pub outcome : Bounds → List Token → List Symbol → Outcome
outcome b [] stack = if may_end stack then Whole else Stop Grammar1 b.end
outcome b (t ∷ ts) stack =
    next b (outcome b ts) t.span.from (advance b.second stack t.kind)
