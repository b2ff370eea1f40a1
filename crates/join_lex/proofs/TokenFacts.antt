-- What is true of the tokens among the pieces of a text: what their type keeps, and that spans hold
-- spellings.
use Rattle.std.proofs.Common.{◌≡◌, ℕ, zero, suc, Bool, ◌+◌, ◌<◌, ◌≤◌, List, [], ◌∷◌, length, take}
use Rattle.std.proofs.Common.{drop, refl, subst, sym, ap, ◌∙◌, ◌-◌, arith, length-append}
use Rattle.std.specs.List.{All, AllPairs}
use Rattle.std.proofs.lemmas.List.{drop_all, drop_at, drop-drop, take_at}
use Rattle.std.proofs.lemmas.List.Kept.{AllPairs-cons}
use Rattle.chem_model.specs.Each.{Each}
use Rattle.join_lex.specs.declared.token.Sign.{Sign}
use Rattle.join_lex.specs.declared.token.Sign.TheVariants as sign
use Rattle.join_lex.specs.declared.token.Kind2.{Kind2}
use Rattle.join_lex.specs.declared.token.Kind2.TheVariants as kind
use Rattle.join_lex.specs.declared.token.Token.{Token}
use Rattle.join_lex.specs.Spelling.{Version, IsStretch, IsOfVersion, sign_bytes}
use Rattle.join_lex.specs.Tokens.{TokensOfText, AreTokens}
use Rattle.join_lex.specs.Versions.{version_of}
use Rattle.join_lex.specs.Lexical.{BeginsWith, bytes_of, Piece, Gap, Word, SpellsToken, IsSmall}
use Rattle.join_lex.specs.Lexical.{Splits, tokens_at, AreTokensIn, IsSpelledAt}
use Rattle.join_lex.proofs.Passed.{Passed}
use Rattle.join_lex.proofs.Keys.{key-run}

run-some : {first f : ℕ → Bool} {word : List ℕ} → IsStretch first f word → 0 < length word
run-some {first} {f} {word} r = omega (arith, ap length r.is)

sign-some : (s : Sign) → 0 < length (sign_bytes s)
sign-some sign.Arrow = omega arith
sign-some sign.Colon = omega arith
sign-some sign.Bar = omega arith
sign-some sign.ParenLeft = omega arith
sign-some sign.ParenRight = omega arith
sign-some sign.SquareLeft = omega arith
sign-some sign.SquareRight = omega arith
sign-some sign.Comma = omega arith
sign-some sign.Semicolon = omega arith
sign-some sign.Slash = omega arith

-- A token's spelling has a byte, and the token is one of the version.
spelled : (version : Version) (k : Kind2) (word rest : List ℕ) → SpellsToken version k word rest
    → IsSmall version (Word k word) → (0 < length word) × IsOfVersion version k
spelled version (kind.Ident name) word rest (e, i, t) s = (run-some i.0, rw e i)
spelled version (kind.Number n) word rest (e, r, t) s = (run-some r, s)
spelled version (kind.Key k) word rest (e, m, t) s = (rw e (run-some (key-run k)), m)
spelled version (kind.Sign k) word rest e s = (rw e (sign-some k), tt)

each-weaker : {X : Type 0} (P Q : X → Type 0) → ((x : X) → P x → Q x) → (xs : List X) → Each P xs
    → Each Q xs
each-weaker P Q f [] h = tt
each-weaker P Q f (x ∷ xs) h = (f x h.0, each-weaker P Q f xs h.1)

-- as the word by index
each-all : {X : Type 0} (P : X → Type 0) (xs : List X) → Each P xs → All P xs
each-all P [] h k d within = absurd (omega arith)
each-all P (x ∷ xs) h zero d within = h.0
each-all P (x ∷ xs) h (suc k) d within = each-all P xs h.1 k d (omega arith)

-- tokens that stand between two places
record Between (version : Version) (place upto : ℕ) (ts : List Token) : Type 0 where
  few : length ts + place ≤ upto
  spans : Each (λ token. token.span.from < token.span.upto) ts
  after : Each (λ token. place ≤ token.span.from) ts
  rise : AllPairs (λ one later. one.span.upto ≤ later.span.from) ts
  within : Each (λ token. token.span.upto ≤ upto) ts
  words : Each (λ token. IsOfVersion version token.kind) ts

sooner : (version : Version) (place later upto : ℕ) (ts : List Token) → place ≤ later
    → Between version later upto ts → Between version place upto ts
sooner version place later upto ts l b =
    let P : Token → Type 0 = λ token. later ≤ token.span.from in
    let Q : Token → Type 0 = λ token. place ≤ token.span.from in
    record {
      few = omega (arith, b.few, l);
      spans = b.spans;
      after = each-weaker P Q (λ t h. omega (arith, h, l)) ts b.after;
      rise = b.rise;
      within = b.within;
      words = b.words;
    }

one_more : (version : Version) (k : Kind2) (place behind upto : ℕ) (ts : List Token)
    → place < behind → IsOfVersion version k → Between version behind upto ts
    → Between version place upto
    (record { kind = k; span = record { from = place; upto = behind } } ∷ ts)
one_more version k place behind upto ts l m b =
    let token : Token = record { kind = k; span = record { from = place; upto = behind } } in
    let later = sooner version place behind upto ts (omega (arith, l)) b in
    record {
      few = omega (arith, b.few, l);
      spans = (l, b.spans);
      after = (omega arith, later.after);
      rise = AllPairs-cons (λ one other. one.span.upto ≤ other.span.from) token ts
          (each-all (λ t. behind ≤ t.span.from) ts b.after) b.rise;
      within = (omega (arith, b.few), b.within);
      words = (m, b.words);
    }

between : (version : Version) (ps : List Piece) (text : List ℕ) (place upto : ℕ)
    → Splits version ps text [] → place + length text ≡ upto
    → Between version place upto (tokens_at place ps)
between version [] text place upto e u = record {
  few = omega (arith, u);
  spans = tt;
  after = tt;
  rise = λ i j d l h. absurd (omega (arith, h));
  within = tt;
  words = tt;
}
between version (Gap g ∷ ps) text place upto (more, b, s, t) u =
    let n : length text ≡ length g + length more = simp length-append at (ap length b.whole) in
    sooner version place (place + length g) upto _ (omega arith)
    (between version ps more (place + length g) upto t (omega (arith, n, u)))
between version (Word k w ∷ ps) text place upto (more, b, s, t) u =
    let n : length text ≡ length w + length more = simp length-append at (ap length b.whole) in
    let is = spelled version k w more b.fits s in
    one_more version k place (place + length w) upto _ (omega (arith, is.0)) is.1
    (between version ps more (place + length w) upto t (omega (arith, n, u)))

-- Where the pieces reach the end of the text, the tokens among them are the tokens of a text.
pub are_tokens : (text : List ℕ) (place : ℕ) (tokens : List Token) → length text ≤ 1048576
    → length text ≤ place → Passed (version_of tokens) text place tokens
    → AreTokens (record { list = tokens; length = length text })
are_tokens text place tokens short end p =
    let split : Splits (version_of tokens) p.pieces text [] =
    rw (drop_all place text end) at p.split in
    let b : Between (version_of tokens) 0 (length text) tokens =
    subst (Between (version_of tokens) 0 (length text)) (sym p.tokens_are)
    (between (version_of tokens) p.pieces text 0 (length text) split (omega arith)) in
    record {
      few = omega (arith, b.few, short);
      spans = b.spans;
      rise = b.rise;
      within = b.within;
      words = b.words;
    }

behind : (version : Version) (p : Piece) (whole text more : List ℕ) (place : ℕ)
    → drop place whole ≡ text → BeginsWith version p text more
    → drop (place + length (bytes_of p)) whole ≡ more
behind version p whole text more place e b =
    let d : drop (length (bytes_of p)) text ≡ more =
    rw b.whole (drop_at (bytes_of p) more _ refl) in
    sym (drop-drop (length (bytes_of p)) place whole) ∙ ap (drop (length (bytes_of p))) e ∙ d

word-spelled : (version : Version) (k : Kind2) (w whole text more : List ℕ) (place : ℕ)
    → drop place whole ≡ text → BeginsWith version (Word k w) text more
    → IsSpelledAt version whole
    (record { kind = k; span = record { from = place; upto = place + length w } })
word-spelled version k w whole text more place e b =
    let n : place + length w - place ≡ length w = omega arith in
    let t : take (place + length w - place) (drop place whole) ≡ w =
    rw (n, e, b.whole) (take_at w more _ refl) in
    rw (t, behind version (Word k w) whole text more place e b) b.fits

spelled_at : (version : Version) (ps : List Piece) (whole text : List ℕ) (place : ℕ)
    → drop place whole ≡ text → Splits version ps text []
    → Each (IsSpelledAt version whole) (tokens_at place ps)
spelled_at version [] whole text place e s = tt
spelled_at version (Gap g ∷ ps) whole text place e (more, b, s, t) =
    spelled_at version ps whole more (place + length g)
    (behind version (Gap g) whole text more place e b) t
spelled_at version (Word k w ∷ ps) whole text place e (more, b, s, t) = (
  word-spelled version k w whole text more place e b,
  spelled_at version ps whole more (place + length w)
      (behind version (Word k w) whole text more place e b) t,
)

pub spelled_tokens : (version : Version) (text : List ℕ) (t : TokensOfText)
    → AreTokensIn version t text → Each (IsSpelledAt version text) t.list
spelled_tokens version text t a =
    rw a.stand.tokens_are (spelled_at version a.stand.pieces text text 0 refl a.stand.split)
