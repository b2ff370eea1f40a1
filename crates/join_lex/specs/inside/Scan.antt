-- The first piece of a text, computed as the private functions do; `proofs/ScanLaws` has that it is
-- the piece with which the text begins.
use Rattle.std.specs.Prelude.{◌≡◌, ℕ, ◌==◌, nat_le, List, [], ◌∷◌, take, Result, Ok, Err, Option}
use Rattle.std.specs.Prelude.{Some, None, if◌then◌else◌, slice_index}
use Rattle.std.specs.Str.{bytes_eq}
use Rattle.std.specs.List.{take_while}
use Rattle.join_base.specs.declared.fault.Kind.{Kind}
use Rattle.join_base.specs.declared.fault.Kind.TheVariants.{Lex2, Lex3}
use Rattle.join_base.specs.declared.fault.Front.{Front}
use Rattle.join_base.specs.declared.fault.Front.TheVariants as front
use Rattle.join_lex.specs.declared.token.Key.{Key}
use Rattle.join_lex.specs.declared.token.Sign.{Sign}
use Rattle.join_lex.specs.declared.token.Sign.TheVariants as sign
use Rattle.join_lex.specs.declared.token.Kind2.{Kind2}
use Rattle.join_lex.specs.declared.token.Kind2.TheVariants as kind
use Rattle.join_lex.specs.Spelling.{Version, key_bytes, is_blank, is_lower, in_word, is_digit}
use Rattle.join_lex.specs.Spelling.{in_line, value_of}
use Rattle.join_lex.specs.Lexical.{Piece, Gap, Word}

-- the keyword that a word is
abbrev pub key_at : List Key → List ℕ → Option Key
key_at [] word = None
key_at (k ∷ ks) word = if bytes_eq word (key_bytes k) then Some k else key_at ks word

abbrev pub one_sign : ℕ → Option (Sign × ℕ)
one_sign b =
    if b == 58 then Some (sign.Colon, 1)
    else if b == 124 then Some (sign.Bar, 1)
    else if b == 40 then Some (sign.ParenLeft, 1)
    else if b == 41 then Some (sign.ParenRight, 1)
    else if b == 91 then Some (sign.SquareLeft, 1)
    else if b == 93 then Some (sign.SquareRight, 1)
    else if b == 44 then Some (sign.Comma, 1)
    else if b == 59 then Some (sign.Semicolon, 1)
    else if b == 47 then Some (sign.Slash, 1)
    else None

-- the sign at the front, and its length
abbrev pub sign_at : List ℕ → Option (Sign × ℕ)
sign_at [] = None
sign_at (b ∷ []) = one_sign b
sign_at (b ∷ c ∷ rest) =
    if b == 61 then (if c == 62 then Some (sign.Arrow, 2) else None) else one_sign b

abbrev pub word_kind : List ℕ → Option Key → Kind2
word_kind word (Some k) = kind.Key k
word_kind word None = kind.Ident word

abbrev pub word_piece : Version → List ℕ → Piece
word_piece version word = Word (word_kind word (key_at version.keywords word)) word

abbrev pub sign_piece : List ℕ → Option (Sign × ℕ) → Result Piece Kind
sign_piece text None = Err Lex2
sign_piece text (Some s) = Ok (Word (kind.Sign s.0) (take s.1 text))

abbrev pub number_piece : Version → List ℕ → Result Piece Kind
number_piece version word =
    if nat_le (value_of word) version.largest then Ok (Word (kind.Number (value_of word)) word)
    else Err Lex3

abbrev pub scan_from : Version → ℕ → List ℕ → Result Piece Kind
scan_from version b text =
    if is_blank b then Ok (Gap (take 1 text))
    else if b == 35 then Ok (Gap (take_while in_line text))
    else if is_lower b then Ok (word_piece version (take_while in_word text))
    else if is_digit b then number_piece version (take_while is_digit text)
    else sign_piece text (sign_at text)

-- the first piece of a text that isn't empty, or the kind of the fault at its front
abbrev pub scan : Version → List ℕ → Result Piece Kind
scan version text = scan_from version (slice_index text 0) text

abbrev pub piece_of : List ℕ → Option Kind2 → ℕ → Piece
piece_of text None len = Gap (take len text)
piece_of text (Some k) len = Word k (take len text)

-- The piece at this place is none, as this error tells.
abbrev pub PieceFails : Result Piece Kind → ℕ → Front → Type 0
PieceFails piece place (front.Refused k where_at) = (where_at ≡ place) × (piece ≡ Err k)
PieceFails piece place front.Memory = Unit {0}

-- This is the piece at the front of the text, which begins at this place: the kind of a token and
-- how many bytes the piece has.
abbrev pub IsPieceAt : Result Piece Kind → ℕ → List ℕ → Result (Option Kind2 × ℕ) Front → Type 0
IsPieceAt piece place text (Ok found) = piece ≡ Ok (piece_of text found.0 found.1)
IsPieceAt piece place text (Err e) = PieceFails piece place e

-- The scan of the text, which begins at this place, ends in this error.
abbrev pub ScanFails : Version → ℕ → List ℕ → Front → Type 0
ScanFails version place text e = PieceFails (scan version text) place e

-- The scan of the text, which begins at this place, answers this.
abbrev pub Scans : Version → ℕ → List ℕ → Result (Option Kind2 × ℕ) Front → Type 0
Scans version place text r = IsPieceAt (scan version text) place text r
