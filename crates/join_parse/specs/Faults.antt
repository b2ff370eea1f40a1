-- The one tree of a text's tokens, or the first token that is refused.
use Rattle.std.specs.Prelude.{◌≡◌, ◌⊎◌, ℕ, ◌+◌, Bool, List, [], ◌∷◌, ◌++◌, length, Result, Ok, Err}
use Rattle.join_base.specs.declared.fault.Kind.{Kind}
use Rattle.join_base.specs.declared.fault.Kind.TheVariants.{Grammar1, Grammar2}
use Rattle.join_base.specs.declared.fault.Front.{Front}
use Rattle.join_base.specs.declared.fault.Front.TheVariants.{Refused, Memory}
use Rattle.join_lex.specs.declared.token.Token.{Token}
use Rattle.join_lex.specs.Tokens.{TokensOfText}
use Rattle.join_lex.specs.Versions.{says_second}
use Rattle.join_lex.specs.Lexical.{IsOrMemory}
use Rattle.join_parse.specs.Terminals.{Terminal, terminals}
use Rattle.join_parse.specs.Grammar.{TreeOfText, Places, is_second, IsGrammatical, IsSentence}
use Rattle.join_parse.specs.Grammar.{sentence}
use Rattle.join_parse.specs.Levels.{levels, most_levels, AreWithin}
use Rattle.join_parse.specs.Begins.{Begins}

-- The tokens are the sentence of this tree, which is of the second version or isn't, and no level
-- is above the limit.
pub record IsTreeOf (second : Bool) (limit : ℕ) (tokens : List Token)
    (tree : TreeOfText) : Type 0 where
  pub version : is_second tree.version ≡ second
  pub is : IsSentence tokens tree
  pub low : AreWithin limit (levels tree)

-- Some sentence of the version goes on from these tokens, and along them no level is above the
-- limit.
pub record GoesOn (second : Bool) (limit : ℕ) (tokens : List Token) : Type 0 where
  pub tree : TreeOfText
  pub version : is_second tree.version ≡ second
  pub more : List Terminal
  pub grammatical : IsGrammatical tree
  pub at : Places
  pub spelled : sentence at tree ≡ terminals tokens ++ more
  pub before : List ℕ
  pub after : List ℕ
  pub levels_are : levels tree ≡ before ++ after
  pub along : length before ≡ length tokens
  pub low : AreWithin limit before

-- No sentence of the version goes on with what comes next, which stands at this place; `end` is the
-- length of the text.
abbrev pub NoneGoesOn : Bool → ℕ → List Token → List Token → ℕ → Type 0
NoneGoesOn second end front [] place =
    (place ≡ end)
    × ((tree : TreeOfText) → is_second tree.version ≡ second → IsSentence front tree → ⊥)
NoneGoesOn second end front (token ∷ next) place =
    (place ≡ token.span.from) × (Begins second (front ++ token ∷ []) → ⊥)

-- At this place stands the first token after which no sentence goes on, or the end of tokens that
-- are no sentence.
pub record IsFirstRefused (second : Bool) (limit end : ℕ) (tokens : List Token)
    (place : ℕ) : Type 0 where
  pub front : List Token
  pub next : List Token
  pub all : tokens ≡ front ++ next
  pub goes : GoesOn second limit front
  pub refused : NoneGoesOn second end front next place

-- The token at this place may stand there and opens the level above the limit, and no token before
-- it does.
pub record IsFirstDeep (second : Bool) (limit : ℕ) (tokens : List Token)
    (place : ℕ) : Type 0 where
  pub front : List Token
  pub token : Token
  pub next : List Token
  pub all : tokens ≡ front ++ token ∷ next
  pub is_at : place ≡ token.span.from
  pub tree : TreeOfText
  pub version : is_second tree.version ≡ second
  pub more : List Terminal
  pub grammatical : IsGrammatical tree
  pub at : Places
  pub spelled : sentence at tree ≡ terminals (front ++ token ∷ []) ++ more
  pub before : List ℕ
  pub after : List ℕ
  pub levels_are : levels tree ≡ before ++ (limit + 1) ∷ after
  pub along : length before ≡ length front
  pub low : AreWithin limit before

-- Why tokens have no tree: never a fault of another phase.
abbrev pub IsRefusedAs : Bool → ℕ → ℕ → List Token → Front → Type 0
IsRefusedAs second limit end tokens (Refused Grammar1 place) =
    IsFirstRefused second limit end tokens place
IsRefusedAs second limit end tokens (Refused Grammar2 place) =
    IsFirstDeep second limit tokens place
IsRefusedAs second limit end tokens (Refused kind place) = ⊥
IsRefusedAs second limit end tokens Memory = Unit {0}

-- This is the tree of tokens, in their version.
abbrev pub IsTheTree : List Token → TreeOfText → Type 0
IsTheTree tokens tree =
    IsTreeOf (says_second tokens) (most_levels (says_second tokens)) tokens tree

-- This is why a text's tokens have no tree, in their version.
abbrev pub IsTheRefusal : TokensOfText → Front → Type 0
IsTheRefusal t e =
    IsRefusedAs (says_second t.list) (most_levels (says_second t.list)) t.length t.list e

-- The tree of the tokens is answered where they have one, and their fault where they have it, each
-- but for want of memory.
abbrev pub AnswersTree : TokensOfText → Result TreeOfText Front → Type 0
AnswersTree t result =
    (tree : TreeOfText) → IsTheTree t.list tree → IsOrMemory (Ok tree) result

abbrev pub AnswersFault : TokensOfText → Result TreeOfText Front → Type 0
AnswersFault t result =
    (kind : Kind) (place : ℕ) → IsTheRefusal t (Refused kind place)
    → IsOrMemory (Err (Refused kind place)) result

-- Tokens have one tree, or they are refused in one way at one place.
pub record HasOneOutcome (second : Bool) (limit end : ℕ) (tokens : List Token) : Type 0 where
  pub some : ((t : TreeOfText) × IsTreeOf second limit tokens t)
      ⊎ ((kind : Kind) × (place : ℕ)
      × IsRefusedAs second limit end tokens (Refused kind place))
  pub one_tree : (t u : TreeOfText) → IsSentence tokens t → IsSentence tokens u → t ≡ u
  pub tree_or_fault : (t : TreeOfText) (kind : Kind) (place : ℕ)
      → IsTreeOf second limit tokens t
      → IsRefusedAs second limit end tokens (Refused kind place) → ⊥
  pub one_fault : (kind kind' : Kind) (place place' : ℕ)
      → IsRefusedAs second limit end tokens (Refused kind place)
      → IsRefusedAs second limit end tokens (Refused kind' place')
      → (kind ≡ kind') × (place ≡ place')
