-- The sort lines among pieces are found by reading the bytes one after another.
use Rattle.std.proofs.Common.{◌≡◌, ℕ, ◌+◌, Bool, true, false, cond, List, [], ◌∷◌, ◌++◌, refl, sym}
use Rattle.std.proofs.Common.{ap, ◌∙◌, subst, arith, length, inl, inr, ◌==◌, eqb-true, ◌&&◌, not}
use Rattle.std.proofs.Common.{IsTrue}
use Rattle.join_lex.specs.declared.token.Kind2.{Kind2}
use Rattle.join_lex.specs.declared.token.Kind2.TheVariants as kind
use Rattle.join_lex.specs.declared.token.Key.{Key}
use Rattle.join_lex.specs.declared.token.Key.TheVariants as key
use Rattle.join_lex.specs.declared.token.Sign.{Sign}
use Rattle.join_lex.specs.declared.token.Sign.TheVariants as sign
use Rattle.join_lex.specs.Spelling.{Version, is_blank, is_hash, in_line, is_lower, is_digit}
use Rattle.join_lex.specs.Spelling.{in_word, key_bytes, sign_bytes, Pass, IsStretch}
use Rattle.join_lex.specs.Lexical.{Piece, Gap, Word, Stops, SpellsToken, Fits, Splits}
use Rattle.sort_lines.specs.Lines.{line_after, line_of, lines_at, to_end, read_lines, LinesAreRead}

-- ---- bytes without a `#`

abbrev NoHash : List ℕ → Type 0
NoHash [] = Unit {0}
NoHash (b ∷ bs) = (is_hash b ≡ false) × NoHash bs

-- a run of them is passed over
over : (place : ℕ) (word rest : List ℕ) → NoHash word
    → read_lines false place (word ++ rest) ≡ read_lines false (place + length word) rest
over place [] rest h = ap (λ k. read_lines false k rest) (omega arith)
over place (b ∷ word) rest h =
    (λ i. cond (h.0 i) (line_after place (to_end (word ++ rest))) []
    ++ read_lines (h.0 i) (place + 1) (word ++ rest)) ∙ over (place + 1) word rest h.1
    ∙ ap (λ k. read_lines false k rest) (omega arith)

-- a test that fails of `#` holds of no `#`
apart : (f : ℕ → Bool) (b : ℕ) → f 35 ≡ false → IsTrue (f b) → is_hash b ≡ false
apart f b fails holds = go (is_hash b) refl
  where
    go : (u : Bool) → is_hash b ≡ u → is_hash b ≡ false
    go false c = c
    go true c =
        let is : b ≡ 35 = eqb-true b 35 c in
        let clash : IsTrue false = subst IsTrue (ap f is ∙ fails) holds in
        cc

passed : (f : ℕ → Bool) → f 35 ≡ false → (word : List ℕ) → Pass f word → NoHash word
passed f fails [] h = tt
passed f fails (b ∷ word) h = (apart f b fails h.0, passed f fails word h.1)

stretch : (first f : ℕ → Bool) (word : List ℕ) → first 35 ≡ false → f 35 ≡ false
    → IsStretch first f word → NoHash word
stretch first f word fails no_more h =
    subst NoHash (sym h.is) (apart first h.head fails h.starts, passed f no_more h.more h.passes)

-- computed
abbrev none_hash : List ℕ → Bool
none_hash [] = true
none_hash (b ∷ bs) = not (is_hash b) && none_hash bs

no_hash_of : (bs : List ℕ) → none_hash bs ≡ true → NoHash bs
no_hash_of [] e = tt
no_hash_of (b ∷ bs) e = go (is_hash b) refl e (no_hash_of bs)
  where
    go : (u : Bool) → is_hash b ≡ u → not u && none_hash bs ≡ true
        → (none_hash bs ≡ true → NoHash bs) → NoHash (b ∷ bs)
    go true c d ih = cc
    go false c d ih = (c, ih d)

no_hash_key : (k : Key) → NoHash (key_bytes k)
no_hash_key key.Observe = no_hash_of (key_bytes key.Observe) refl
no_hash_key key.Site = no_hash_of (key_bytes key.Site) refl
no_hash_key key.Def = no_hash_of (key_bytes key.Def) refl
no_hash_key key.Inside = no_hash_of (key_bytes key.Inside) refl
no_hash_key key.And = no_hash_of (key_bytes key.And) refl
no_hash_key key.Go = no_hash_of (key_bytes key.Go) refl
no_hash_key key.Fail = no_hash_of (key_bytes key.Fail) refl
no_hash_key key.Halt = no_hash_of (key_bytes key.Halt) refl
no_hash_key key.Void = no_hash_of (key_bytes key.Void) refl
no_hash_key key.Add = no_hash_of (key_bytes key.Add) refl
no_hash_key key.Same = no_hash_of (key_bytes key.Same) refl

no_hash_sign : (s : Sign) → NoHash (sign_bytes s)
no_hash_sign sign.Arrow = no_hash_of (sign_bytes sign.Arrow) refl
no_hash_sign sign.Colon = no_hash_of (sign_bytes sign.Colon) refl
no_hash_sign sign.Bar = no_hash_of (sign_bytes sign.Bar) refl
no_hash_sign sign.ParenLeft = no_hash_of (sign_bytes sign.ParenLeft) refl
no_hash_sign sign.ParenRight = no_hash_of (sign_bytes sign.ParenRight) refl
no_hash_sign sign.SquareLeft = no_hash_of (sign_bytes sign.SquareLeft) refl
no_hash_sign sign.SquareRight = no_hash_of (sign_bytes sign.SquareRight) refl
no_hash_sign sign.Comma = no_hash_of (sign_bytes sign.Comma) refl
no_hash_sign sign.Semicolon = no_hash_of (sign_bytes sign.Semicolon) refl
no_hash_sign sign.Slash = no_hash_of (sign_bytes sign.Slash) refl

no_hash_word : (version : Version) (k : Kind2) (word rest : List ℕ)
    → SpellsToken version k word rest → NoHash word
no_hash_word version (kind.Ident name) word rest h = stretch is_lower in_word word refl refl h.1.0
no_hash_word version (kind.Number n) word rest h = stretch is_digit is_digit word refl refl h.1
no_hash_word version (kind.Key k) word rest h = subst NoHash (sym h.0) (no_hash_key k)
no_hash_word version (kind.Sign s) word rest h = subst NoHash (sym h) (no_hash_sign s)

-- ---- a comment

-- its bytes behind the `#` are those up to the end of the line
ends : (more rest : List ℕ) → Pass in_line more → Stops in_line rest → to_end (more ++ rest) ≡ more
ends [] [] h s = refl
ends [] (b ∷ rest) h s = ap (λ u. cond u (b ∷ to_end rest) []) s
ends (b ∷ more) rest h s =
    goes_on (in_line b) h.0 (b ∷ to_end (more ++ rest)) ∙ ap (λ l. b ∷ l) (ends more rest h.1 s)
  where
    goes_on : (u : Bool) → IsTrue u → (l : List ℕ) → cond u l [] ≡ l
    goes_on true t l = refl
    goes_on false t l = cc

is_true : (u : Bool) → IsTrue u → u ≡ true
is_true true t = refl
is_true false t = cc

-- a byte that ends a line is no `#`
pub no_hash_end : (b : ℕ) → in_line b ≡ false → is_hash b ≡ false
no_hash_end b s = go (b == 10) refl s
  where
    go : (u : Bool) → b == 10 ≡ u → not u ≡ false → is_hash b ≡ false
    go true c e = ap is_hash (eqb-true b 10 c)
    go false c e = cc

-- and reading goes on outside behind it
within : (place : ℕ) (more rest : List ℕ) → Pass in_line more → Stops in_line rest
    → read_lines true place (more ++ rest) ≡ read_lines false (place + length more) rest
within place [] [] h s = refl
within place [] (b ∷ rest) h s =
    let fails = no_hash_end b s in
    (λ i. read_lines (s i) (place + 1) rest) ∙ ap (λ k. read_lines false k rest) (omega arith)
    ∙ (λ i. cond (sym fails i) (line_after (place + 0) (to_end rest)) []
    ++ read_lines (sym fails i) (place + 0 + 1) rest)
within place (b ∷ more) rest h s =
    (λ i. read_lines (is_true (in_line b) h.0 i) (place + 1) (more ++ rest))
    ∙ within (place + 1) more rest h.1 s ∙ ap (λ k. read_lines false k rest) (omega arith)

comment : (place head : ℕ) (more rest : List ℕ) → is_hash head ≡ true → Pass in_line more
    → Stops in_line rest
    → read_lines false place (head ∷ (more ++ rest))
    ≡ line_of place (head ∷ more) ++ read_lines false (place + length (head ∷ more)) rest
comment place head more rest hash h s =
    (λ i. cond (hash i) (line_after place (to_end (more ++ rest))) []
    ++ read_lines (hash i) (place + 1) (more ++ rest))
    ∙ (λ i. line_after place (ends more rest h s i) ++ within (place + 1) more rest h s i)
    ∙ (λ i. cond (sym hash i) (line_after place more) [] ++ read_lines false (same i) rest)
  where
    same : place + 1 + length more ≡ place + length (head ∷ more)
    same = omega arith

blank : (place b : ℕ) (rest : List ℕ) → is_hash b ≡ false
    → read_lines false place (b ∷ rest)
    ≡ line_of place (b ∷ []) ++ read_lines false (place + 1) rest
blank place b rest fails = (λ i.
    cond (fails i) (line_after place (to_end rest)) [] ++ read_lines (fails i) (place + 1) rest)
    ∙ (λ i. cond (sym fails i) (line_after place []) [] ++ read_lines false (place + 1) rest)

gap : (version : Version) (place : ℕ) (bytes rest : List ℕ) → Fits version (Gap bytes) rest
    → read_lines false place (bytes ++ rest)
    ≡ line_of place bytes ++ read_lines false (place + length bytes) rest
gap version place bytes rest (inl h) = subst (λ l. read_lines false place (l ++ rest)
    ≡ line_of place l ++ read_lines false (place + length l) rest) (sym h.1)
    (blank place h.0 rest (apart is_blank h.0 refl h.2))
gap version place bytes rest (inr h) = subst (λ l. read_lines false place (l ++ rest)
    ≡ line_of place l ++ read_lines false (place + length l) rest) (sym h.0.is)
    (comment place h.0.head h.0.more rest (is_true (is_hash h.0.head) h.0.starts) h.0.passes h.1)

-- ---- a text

read : (version : Version) (pieces : List Piece) (place : ℕ) (text : List ℕ)
    → Splits version pieces text [] → lines_at place pieces ≡ read_lines false place text
read version [] place text h = ap (read_lines false place) (sym h)
read version (Gap bytes ∷ ps) place text h =
    ap (λ l. line_of place bytes ++ l) (read version ps (place + length bytes) h.0 h.3)
    ∙ sym (gap version place bytes h.0 h.1.fits) ∙ ap (read_lines false place) (sym h.1.whole)
read version (Word k word ∷ ps) place text h =
    read version ps (place + length word) h.0 h.3
    ∙ sym (over place word h.0 (no_hash_word version k word h.0 h.1.fits))
    ∙ ap (read_lines false place) (sym h.1.whole)

pub lines_are_read : LinesAreRead
lines_are_read version lines text h = h.lines_are ∙ read version h.pieces 0 text h.split
