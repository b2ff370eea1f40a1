-- What one step of the lexer does, and what stands before a place.
use Rattle.std.specs.Prelude.{◌≡◌, ℕ, ◌+◌, ◌<◌, ◌≤◌, List, [], ◌∷◌, ◌++◌, length, drop, Result, Ok}
use Rattle.std.specs.Prelude.{Err}
use Rattle.join_base.specs.declared.fault.Front.{Front}
use Rattle.join_lex.specs.declared.token.Token.{Token}
use Rattle.join_lex.specs.Spelling.{Version}
use Rattle.join_lex.specs.Lexical.{Piece, BeginsWith, IsSmall, tokens_at, bytes_of}
use Rattle.join_lex.specs.inside.Scan.{ScanFails}

-- one piece further
pub record StepsTo (version : Version) (text : List ℕ) (place upto : ℕ)
    (old new : List Token) : Type 0 where
  pub piece : Piece
  pub begins : BeginsWith version piece (drop place text) (drop upto text)
  pub small : IsSmall version piece
  pub moved : upto ≡ place + length (bytes_of piece)
  pub further : place < upto
  pub within : upto ≤ length text
  pub tokens : new ≡ old ++ tokens_at place (piece ∷ [])

abbrev pub FailsAt : {T : Type 0} → Version → List ℕ → ℕ → Result T Front → Type 0
FailsAt version text place (Ok t) = Unit {0}
FailsAt version text place (Err e) = ScanFails version place (drop place text) e
