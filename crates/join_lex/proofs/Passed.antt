-- How far a text is cut into pieces.
use Rattle.std.specs.Prelude.{◌≡◌, ℕ, ◌≤◌, List, length, drop}
use Rattle.join_lex.specs.declared.token.Token.{Token}
use Rattle.join_lex.specs.Spelling.{Version}
use Rattle.join_lex.specs.Lexical.{Piece, Splits, tokens_at}

-- the pieces up to a place, and the tokens among them
pub record Passed (version : Version) (text : List ℕ) (place : ℕ)
    (tokens : List Token) : Type 0 where
  pub pieces : List Piece
  pub split : Splits version pieces text (drop place text)
  pub within : place ≤ length text
  pub tokens_are : tokens ≡ tokens_at 0 pieces
