-- What tokens stand for a text, and what its first lexical fault is.
use Rattle.std.specs.Prelude.{◌≡◌, ◌≢◌, ◌⊎◌, ℕ, ◌+◌, ◌-◌, ◌≤◌, ◌<◌, Bool, true, false, IsTrue}
use Rattle.std.specs.Prelude.{List, [], ◌∷◌, ◌++◌, length, take, drop, Result, Ok, Err}
use Rattle.join_base.specs.declared.fault.Kind.{Kind}
use Rattle.join_base.specs.declared.fault.Kind.TheVariants as fault_kind
use Rattle.join_base.specs.declared.fault.Front.{Front}
use Rattle.join_base.specs.declared.fault.Front.TheVariants as front
use Rattle.chem_model.specs.Each.{Each, IsIn}
use Rattle.join_lex.specs.declared.token.Kind2.{Kind2}
use Rattle.join_lex.specs.declared.token.Kind2.TheVariants as kind
use Rattle.join_lex.specs.declared.token.Token.{Token}
use Rattle.join_lex.specs.Spelling.{Version, first_version, second_version, is_blank, is_hash}
use Rattle.join_lex.specs.Spelling.{in_line, is_digit, in_word}
use Rattle.join_lex.specs.Spelling.{sign_bytes, key_bytes, value_of, IsStretch, IsIdentifier}
use Rattle.join_lex.specs.Tokens.{TokensOfText}
use Rattle.join_lex.specs.Versions.{says_second, version_of}

-- a piece of a text: a blank or a whole comment, or a token with its spelling
pub data Piece : Type 0 where
  Gap : List ℕ → Piece
  Word : Kind2 → List ℕ → Piece

abbrev pub bytes_of : Piece → List ℕ
bytes_of (Gap bytes) = bytes
bytes_of (Word k word) = word

-- A run that ends before this rest could not be longer: the rest is empty, or its first byte
-- doesn't pass.
abbrev pub Stops : (ℕ → Bool) → List ℕ → Type 0
Stops f [] = Unit {0}
Stops f (b ∷ bs) = f b ≡ false

-- The word before this rest is the spelling of such a token, and could not be longer.
abbrev pub SpellsToken : Version → Kind2 → List ℕ → List ℕ → Type 0
SpellsToken version (kind.Ident name) word rest =
    (name ≡ word) × IsIdentifier version word × Stops in_word rest
SpellsToken version (kind.Number n) word rest =
    (n ≡ value_of word) × IsStretch is_digit is_digit word × Stops is_digit rest
SpellsToken version (kind.Key k) word rest =
    (word ≡ key_bytes k) × IsIn k version.keywords × Stops in_word rest
SpellsToken version (kind.Sign s) word rest = word ≡ sign_bytes s

-- a blank
abbrev pub IsBlank : List ℕ → Type 0
IsBlank bytes = (b : ℕ) × (bytes ≡ b ∷ []) × IsTrue (is_blank b)

-- The piece may stand before the rest. A comment goes on to the next line feed or the end.
abbrev pub Fits : Version → Piece → List ℕ → Type 0
Fits version (Gap bytes) rest =
    IsBlank bytes ⊎ (IsStretch is_hash in_line bytes × Stops in_line rest)
Fits version (Word k word) rest = SpellsToken version k word rest

-- The text is a piece that may stand there, and the rest.
pub record BeginsWith (version : Version) (piece : Piece) (text rest : List ℕ) : Type 0 where
  pub whole : text ≡ bytes_of piece ++ rest
  pub fits : Fits version piece rest

-- A number is within the version's bound.
abbrev pub IsSmall : Version → Piece → Type 0
IsSmall version (Gap bytes) = Unit {0}
IsSmall version (Word (kind.Ident name) word) = Unit {0}
IsSmall version (Word (kind.Number n) word) = n ≤ version.largest
IsSmall version (Word (kind.Key k) word) = Unit {0}
IsSmall version (Word (kind.Sign s) word) = Unit {0}

-- The text is these pieces in order, and the rest.
abbrev pub Splits : Version → List Piece → List ℕ → List ℕ → Type 0
Splits version [] text rest = text ≡ rest
Splits version (p ∷ ps) text rest =
    (more : List ℕ) × BeginsWith version p text more × IsSmall version p
    × Splits version ps more rest

-- the tokens among pieces of which the first stands at this place
abbrev pub tokens_at : ℕ → List Piece → List Token
tokens_at place [] = []
tokens_at place (Gap bytes ∷ ps) = tokens_at (place + length bytes) ps
tokens_at place (Word k word ∷ ps) =
    record { kind = k; span = record { from = place; upto = place + length word } }
    ∷ tokens_at (place + length word) ps

-- The tokens stand for the text: it is pieces, and these are the tokens among them.
pub record StandFor (version : Version) (tokens : List Token) (text : List ℕ) : Type 0 where
  pub pieces : List Piece
  pub split : Splits version pieces text []
  pub tokens_are : tokens ≡ tokens_at 0 pieces

-- The text is of the second version: the tokens of its first pieces are three and say so. They are
-- the same in both versions.
pub record IsSecond (text : List ℕ) : Type 0 where
  pub pieces : List Piece
  pub rest : List ℕ
  pub split : Splits first_version pieces text rest
  pub three : length (tokens_at 0 pieces) ≡ 3
  pub says : says_second (tokens_at 0 pieces) ≡ true

-- The text is of this version: of the second where its first three tokens say so, and else of the
-- first.
abbrev pub IsOf : Version → List ℕ → Type 0
IsOf version text =
    (IsSecond text × (version ≡ second_version)) ⊎ ((IsSecond text → ⊥) × (version ≡ first_version))

-- These are the tokens of the text in this version, and it isn't too long.
pub record AreTokensIn (version : Version) (t : TokensOfText) (text : List ℕ) : Type 0 where
  pub short : length text ≤ 1048576
  pub stand : StandFor version t.list text
  pub length_is : t.length ≡ length text

-- These are the tokens of the text, in its version.
abbrev pub AreTokensOf : TokensOfText → List ℕ → Type 0
AreTokensOf t text = (version : Version) × IsOf version text × AreTokensIn version t text

-- The version that the tokens say is the text's.
abbrev pub TellVersion : List ℕ → TokensOfText → Type 0
TellVersion text t = AreTokensOf t text → IsOf (version_of t.list) text

-- The bytes of the token's span are its spelling, and it could not be longer.
abbrev pub IsSpelledAt : Version → List ℕ → Token → Type 0
IsSpelledAt version text token =
    SpellsToken version token.kind
    (take (token.span.upto - token.span.from) (drop token.span.from text))
    (drop token.span.upto text)

-- Where these are the tokens of the text, each span holds its token's spelling.
abbrev pub HoldSpellings : List ℕ → TokensOfText → Type 0
HoldSpellings text t = AreTokensOf t text → Each (IsSpelledAt (version_of t.list) text) t.list

-- At the front of the rest stands a byte that begins neither blank, comment nor token.
abbrev pub NoToken : Version → List ℕ → Type 0
NoToken version rest =
    (rest ≢ []) × ((p : Piece) (more : List ℕ) → BeginsWith version p rest more → ⊥)

-- At the front of the rest stands a number above the bound.
abbrev pub LargeNumber : Version → List ℕ → Type 0
LargeNumber version rest =
    (n : ℕ) × (word : List ℕ) × (more : List ℕ)
    × BeginsWith version (Word (kind.Number n) word) rest more × (version.largest < n)

-- Pieces stand before this place, and such a rest begins at it.
pub record BreaksAt (version : Version) (Bad : List ℕ → Type 0) (place : ℕ)
    (text : List ℕ) : Type 0 where
  pub pieces : List Piece
  pub rest : List ℕ
  pub split : Splits version pieces text rest
  pub bad : Bad rest
  pub place_is : place + length rest ≡ length text

-- a lexical fault: a text that is too long, a byte that begins no token, or a number that is too
-- large
pub data Fault : Type 0 where
  too_long : Fault
  no_token : Fault
  large_number : Fault

-- The first lexical fault of the text in this version is this one, at this place.
abbrev pub IsFirstFaultIn : Version → Fault → ℕ → List ℕ → Type 0
IsFirstFaultIn version too_long place text = (1048576 < length text) × (place ≡ 1048576)
IsFirstFaultIn version no_token place text =
    (length text ≤ 1048576) × BreaksAt version (NoToken version) place text
IsFirstFaultIn version large_number place text =
    (length text ≤ 1048576) × BreaksAt version (LargeNumber version) place text

-- The first lexical fault of the text, in its version.
abbrev pub IsFirstFault : Fault → ℕ → List ℕ → Type 0
IsFirstFault fault place text =
    (version : Version) × IsOf version text × IsFirstFaultIn version fault place text

abbrev pub kind_of : Fault → Kind
kind_of too_long = fault_kind.Lex1
kind_of no_token = fault_kind.Lex2
kind_of large_number = fault_kind.Lex3

-- The error names such a fault at its place; want of memory names none.
abbrev pub Names : (Fault → ℕ → Type 0) → Front → Type 0
Names Is (front.Refused k place) = (fault : Fault) × (k ≡ kind_of fault) × Is fault place
Names Is front.Memory = Unit {0}

abbrev pub NamesFault : Front → List ℕ → Type 0
NamesFault e text = Names (λ fault place. IsFirstFault fault place text) e

-- The result is this answer, or want of memory.
abbrev pub IsOrMemory : {T : Type 0} → Result T Front → Result T Front → Type 0
IsOrMemory answer result = (result ≡ answer) ⊎ (result ≡ Err front.Memory)

-- The tokens of the text are answered where it has them, and its first fault where it has one, each
-- but for want of memory.
abbrev pub AnswersTokens : List ℕ → Result TokensOfText Front → Type 0
AnswersTokens text result =
    (t : TokensOfText) → AreTokensOf t text → IsOrMemory (Ok t) result

abbrev pub AnswersFault : List ℕ → Result TokensOfText Front → Type 0
AnswersFault text result =
    (fault : Fault) (place : ℕ) → IsFirstFault fault place text
    → IsOrMemory (Err (front.Refused (kind_of fault) place)) result

-- There is one list of tokens, or one first fault and its place, and never both.
pub record IsOneOutcome (Are : TokensOfText → Type 0) (Is : Fault → ℕ → Type 0) : Type 0 where
  pub some : ((t : TokensOfText) × Are t) ⊎ ((fault : Fault) × (place : ℕ) × Is fault place)
  pub one_list : (t u : TokensOfText) → Are t → Are u → t ≡ u
  pub not_both : (t : TokensOfText) (fault : Fault) (place : ℕ) → Are t → Is fault place → ⊥
  pub one_fault : (one other : Fault) (place elsewhere : ℕ)
      → Is one place → Is other elsewhere → (one ≡ other) × (place ≡ elsewhere)

-- A text has one list of tokens, or one first fault and its place, and never both.
abbrev pub HasOneOutcome : List ℕ → Type 0
HasOneOutcome text =
    IsOneOutcome (λ t. AreTokensOf t text) (λ fault place. IsFirstFault fault place text)
