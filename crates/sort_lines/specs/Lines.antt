-- The sort lines of a text: its comments that begin with `#:`.
use Rattle.std.specs.Prelude.{◌≡◌, ℕ, ◌+◌, ◌==◌, Bool, true, false, List, [], ◌∷◌, ◌++◌}
use Rattle.std.specs.Prelude.{cond, length}
use Rattle.join_lex.specs.Spelling.{Version, is_hash, in_line}
use Rattle.join_lex.specs.Lexical.{Piece, Gap, Word, Splits}

-- where its `#` stands, and its bytes after `#:`
pub record Line : Type 0 where
  pub place : ℕ
  pub text : List ℕ

-- `:`
abbrev pub is_colon : ℕ → Bool
is_colon b = b == 58

-- what stands after the `#` of a comment at this place
abbrev pub line_after : ℕ → List ℕ → List Line
line_after place [] = []
line_after place (b ∷ text) = cond (is_colon b) (record { place = place; text = text } ∷ []) []

-- a blank or a comment at this place
abbrev pub line_of : ℕ → List ℕ → List Line
line_of place [] = []
line_of place (b ∷ more) = cond (is_hash b) (line_after place more) []

-- the sort lines among pieces of which the first stands at this place
abbrev pub lines_at : ℕ → List Piece → List Line
lines_at place [] = []
lines_at place (Gap bytes ∷ ps) = line_of place bytes ++ lines_at (place + length bytes) ps
lines_at place (Word k word ∷ ps) = lines_at (place + length word) ps

-- The text is pieces, and these are the sort lines among them.
pub record AreLinesOf (version : Version) (lines : List Line) (text : List ℕ) : Type 0 where
  pub pieces : List Piece
  pub split : Splits version pieces text []
  pub lines_are : lines ≡ lines_at 0 pieces

-- ---- the same, byte after byte: no token and no blank has a `#`

-- the bytes up to the end of the line
abbrev pub to_end : List ℕ → List ℕ
to_end [] = []
to_end (b ∷ bs) = cond (in_line b) (b ∷ to_end bs) []

-- whether the byte before stands in a comment that goes on
abbrev pub read_lines : Bool → ℕ → List ℕ → List Line
read_lines inside place [] = []
read_lines true place (b ∷ bs) = read_lines (in_line b) (place + 1) bs
read_lines false place (b ∷ bs) =
    cond (is_hash b) (line_after place (to_end bs)) [] ++ read_lines (is_hash b) (place + 1) bs

-- the sort lines of a text
abbrev pub lines_of : List ℕ → List Line
lines_of text = read_lines false 0 text

-- Whatever the version and the pieces, these are the sort lines among them.
abbrev pub LinesAreRead : Type 0
LinesAreRead =
    (version : Version) (lines : List Line) (text : List ℕ) → AreLinesOf version lines text
    → lines ≡ lines_of text
