-- The piece that is computed is the one with which a text begins.
use Rattle.std.proofs.Common.{◌≡◌, ◌≢◌, ◌⊎◌, ℕ, ◌<◌, ◌≤◌, Bool, true, false, cond, List, [], ◌∷◌}
use Rattle.std.proofs.Common.{◌++◌, length, take, refl, sym, ap, ◌∙◌, inl, inr, arith, Result, Ok}
use Rattle.std.proofs.Common.{Err, Option, Some, None, eqb, leb}
use Rattle.std.specs.List.{take_while}
use Rattle.std.specs.Prelude.{slice_index}
use Rattle.std.proofs.lemmas.Bool.Decides.{nat_tests}
use Rattle.std.proofs.lemmas.List.Sums.{take_while-cons}
use Rattle.join_base.specs.declared.fault.Kind.{Kind}
use Rattle.join_base.specs.declared.fault.Kind.TheVariants.{Lex2, Lex3}
use Rattle.join_lex.specs.declared.token.Key.{Key}
use Rattle.join_lex.specs.declared.token.Sign.{Sign}
use Rattle.join_lex.specs.declared.token.Sign.TheVariants as sign
use Rattle.join_lex.specs.declared.token.Kind2.TheVariants as kind
use Rattle.join_lex.specs.Spelling.{Version, key_bytes, sign_bytes, is_blank, is_lower, in_word}
use Rattle.join_lex.specs.Spelling.{is_digit, is_hash, in_line, value_of, Pass, IsStretch}
use Rattle.join_lex.specs.Lexical.{Piece, Gap, Word, bytes_of, Stops, Fits, BeginsWith, IsSmall}
use Rattle.join_lex.specs.Lexical.{LargeNumber}
use Rattle.join_lex.specs.inside.Scan.{scan, key_at, sign_at, one_sign, sign_piece, number_piece}
use Rattle.join_lex.specs.inside.Scan.{word_piece, word_kind}
use Rattle.join_lex.proofs.Keys.{key-run, key_at-key, key_at-none, key_at-some, not-key}

-- the longest run of a word that passes before a rest that doesn't
pub take_while-run : (f : ℕ → Bool) (w r : List ℕ) → Pass f w → Stops f r
    → take_while f (w ++ r) ≡ w
take_while-run f [] [] p s = refl
take_while-run f [] (b ∷ r) p s = rw s refl
take_while-run f (b ∷ w) r p s =
    take_while-cons f b (w ++ r) ∙ rw p.0 (ap (λ x. b ∷ x) (take_while-run f w r p.1 s))

-- a text is its longest run and a rest that stops it
pub record Cut (f : ℕ → Bool) (text : List ℕ) : Type 0 where
  pub rest : List ℕ
  pub whole : text ≡ take_while f text ++ rest
  pub pass : Pass f (take_while f text)
  pub stop : Stops f rest

cut-step : (f : ℕ → Bool) (x : ℕ) (xs : List ℕ) → Cut f xs → (v : Bool) → f x ≡ v → Cut f (x ∷ xs)
cut-step f x xs c true e =
    let t : take_while f (x ∷ xs) ≡ x ∷ take_while f xs = take_while-cons f x xs ∙ rw e refl in
    record {
      rest = c.rest;
      whole = rw t (ap (λ r. x ∷ r) c.whole);
      pass = rw t (e, c.pass);
      stop = c.stop;
    }
cut-step f x xs c false e =
    let t : take_while f (x ∷ xs) ≡ [] = take_while-cons f x xs ∙ rw e refl in
    record { rest = x ∷ xs; whole = rw t refl; pass = rw t tt; stop = e }

pub cut : (f : ℕ → Bool) (xs : List ℕ) → Cut f xs
cut f [] = record { rest = []; whole = refl; pass = tt; stop = tt }
cut f (x ∷ xs) = cut-step f x xs (cut f xs) (f x) refl

-- tests that exclude each other
pub lower-not : (b : ℕ) → is_lower b ≡ true
    → (is_blank b ≡ false) × (eqb b 35 ≡ false) × (in_word b ≡ true) × (is_digit b ≡ false)
lower-not b e = (
  grind (arith, nat_tests),
  grind (arith, nat_tests),
  grind (arith, nat_tests),
  grind (arith, nat_tests),
)

pub digit-not : (b : ℕ) → is_digit b ≡ true
    → (is_blank b ≡ false) × (eqb b 35 ≡ false) × (is_lower b ≡ false)
digit-not b e = (grind (arith, nat_tests), grind (arith, nat_tests), grind (arith, nat_tests))

pub hash-not : (b : ℕ) → is_hash b ≡ true → (is_blank b ≡ false) × (in_line b ≡ true)
hash-not b e = (grind (arith, nat_tests), grind (arith, nat_tests))

-- the scan of a text that begins with a letter, with a digit, with another byte
pub scan-lower : (version : Version) (text : List ℕ) → is_lower (slice_index text 0) ≡ true
    → scan version text ≡ Ok (word_piece version (take_while in_word text))
scan-lower version text e = let t = lower-not (slice_index text 0) e in rw (t.0, t.1, e) refl

pub scan-digit : (version : Version) (text : List ℕ) → is_digit (slice_index text 0) ≡ true
    → scan version text ≡ number_piece version (take_while is_digit text)
scan-digit version text e = let t = digit-not (slice_index text 0) e in rw (t.0, t.1, t.2, e) refl

-- What a piece that begins a text makes of the scan: the piece, or a large number.
abbrev pub Found : Version → Piece → Result Piece Kind → Type 0
Found version p r = (IsSmall version p → r ≡ Ok p) × ((IsSmall version p → ⊥) → r ≡ Err Lex3)

small_is : (version : Version) (p : Piece) (r : Result Piece Kind) → IsSmall version p → r ≡ Ok p
    → Found version p r
small_is version p r s e = (λ _. e, λ n. absurd (n s))

run-blank : (version : Version) (b : ℕ) (r : List ℕ) → is_blank b ≡ true
    → scan version (b ∷ r) ≡ Ok (Gap (b ∷ []))
run-blank version b r e = rw e refl

run-comment : (version : Version) (g r : List ℕ) → IsStretch is_hash in_line g → Stops in_line r
    → scan version (g ++ r) ≡ Ok (Gap g)
run-comment version g r h s =
    let n = hash-not h.head h.starts in
    let t : take_while in_line ((h.head ∷ h.more) ++ r) ≡ h.head ∷ h.more =
    take_while-run in_line (h.head ∷ h.more) r (n.1, h.passes) s in
    let same : eqb h.head 35 ≡ true = h.starts in
    rw h.is (rw (n.0, same, t) refl)

run-word : (version : Version) (w r : List ℕ) → IsStretch is_lower in_word w → Stops in_word r
    → scan version (w ++ r) ≡ Ok (word_piece version w)
run-word version w r h s =
    let n = lower-not h.head h.starts in
    let t : take_while in_word ((h.head ∷ h.more) ++ r) ≡ h.head ∷ h.more =
    take_while-run in_word (h.head ∷ h.more) r (n.2, h.passes) s in
    rw h.is (rw (t, n.0, n.1, h.starts) refl)

run-number : (version : Version) (w r : List ℕ) → IsStretch is_digit is_digit w → Stops is_digit r
    → scan version (w ++ r) ≡ number_piece version w
run-number version w r h s =
    let n = digit-not h.head h.starts in
    let t : take_while is_digit ((h.head ∷ h.more) ++ r) ≡ h.head ∷ h.more =
    take_while-run is_digit (h.head ∷ h.more) r (h.starts, h.passes) s in
    rw h.is (rw (t, n.0, n.1, n.2, h.starts) refl)

run-sign : (version : Version) (s : Sign) (r : List ℕ)
    → scan version (sign_bytes s ++ r) ≡ Ok (Word (kind.Sign s) (sign_bytes s))
run-sign version sign.Arrow r = refl
run-sign version sign.Colon [] = refl
run-sign version sign.Colon (c ∷ r) = refl
run-sign version sign.Bar [] = refl
run-sign version sign.Bar (c ∷ r) = refl
run-sign version sign.ParenLeft [] = refl
run-sign version sign.ParenLeft (c ∷ r) = refl
run-sign version sign.ParenRight [] = refl
run-sign version sign.ParenRight (c ∷ r) = refl
run-sign version sign.SquareLeft [] = refl
run-sign version sign.SquareLeft (c ∷ r) = refl
run-sign version sign.SquareRight [] = refl
run-sign version sign.SquareRight (c ∷ r) = refl
run-sign version sign.Comma [] = refl
run-sign version sign.Comma (c ∷ r) = refl
run-sign version sign.Semicolon [] = refl
run-sign version sign.Semicolon (c ∷ r) = refl
run-sign version sign.Slash [] = refl
run-sign version sign.Slash (c ∷ r) = refl

number-found : (version : Version) (n : ℕ) (w : List ℕ) → n ≡ value_of w
    → Found version (Word (kind.Number n) w) (number_piece version w)
number-found version n w e = (
  λ s. let l : leb (value_of w) version.largest ≡ true = grind (arith, nat_tests) in
      rw l (ap (λ v. Ok (Word (kind.Number v) w)) (sym e)),
  λ k. let l : leb (value_of w) version.largest ≡ false =
      large-leb n (value_of w) version.largest e k in rw l refl,
)
  where
    large-leb : (n v bound : ℕ) → n ≡ v → (n ≤ bound → ⊥) → leb v bound ≡ false
    large-leb n v bound e k = grind (arith, nat_tests)

fits-found : (version : Version) (p : Piece) (r : List ℕ) → Fits version p r
    → Found version p (scan version (bytes_of p ++ r))
fits-found version (Gap g) r (inl (b, e, t)) =
    small_is version _ _ tt (rw e (run-blank version b r t))
fits-found version (Gap g) r (inr (h, s)) = small_is version _ _ tt (run-comment version g r h s)
fits-found version (Word (kind.Ident name) w) r (e, (h, n), s) =
    small_is version _ _ tt (run-word version w r h s
    ∙ rw (key_at-none version.keywords w n) (ap (λ v. Ok (Word (kind.Ident v) w)) (sym e)))
fits-found version (Word (kind.Number n) w) r (e, h, s) =
    rw (run-number version w r h s) (number-found version n w e)
fits-found version (Word (kind.Key k) w) r (e, m, s) =
    small_is version _ _ tt (rw e
    (run-word version (key_bytes k) r (key-run k) s ∙ rw (key_at-key version.keywords k m) refl))
fits-found version (Word (kind.Sign s) w) r e =
    small_is version _ _ tt (rw e (run-sign version s r))

-- A piece that begins a text is what the scan finds.
pub begins-found : (version : Version) (p : Piece) (text r : List ℕ) → BeginsWith version p text r
    → Found version p (scan version text)
begins-found version p text r b = rw b.whole (fits-found version p r b.fits)

-- What the scan answers is a piece that begins the text, or a number that is too large.
abbrev pub Sound : Version → List ℕ → Result Piece Kind → Type 0
Sound version text (Ok p) = ((more : List ℕ) × BeginsWith version p text more) × IsSmall version p
    × (0 < length (bytes_of p))
Sound version text (Err k) = (k ≡ Lex2) ⊎ ((k ≡ Lex3) × LargeNumber version text)

-- the run at the front of a text that begins with such a byte
record Front (first f : ℕ → Bool) (text : List ℕ) : Type 0 where
  rest : List ℕ
  whole : text ≡ take_while f text ++ rest
  run : IsStretch first f (take_while f text)
  stop : Stops f rest
  some : 0 < length (take_while f text)

front-run : (first f : ℕ → Bool) (b : ℕ) (t : List ℕ) → first b ≡ true → f b ≡ true
    → Front first f (b ∷ t)
front-run first f b t e k =
    let c = cut f t in
    let is : take_while f (b ∷ t) ≡ b ∷ take_while f t = take_while-cons f b t ∙ rw k refl in
    record {
      rest = c.rest;
      whole = rw is (ap (λ r. b ∷ r) c.whole);
      run = record { head = b; more = take_while f t; is = is; starts = e; passes = c.pass };
      stop = c.stop;
      some = rw is (omega arith);
    }

word-sound : (version : Version) (text w : List ℕ) (rest : List ℕ) → text ≡ w ++ rest
    → IsStretch is_lower in_word w → Stops in_word rest → 0 < length w → (o : Option Key)
    → key_at version.keywords w ≡ o → Sound version text (Ok (Word (word_kind w o) w))
word-sound version text w rest e r s l None k =
    ((rest, record { whole = e; fits = (refl, (r, not-key version.keywords w k), s) }), tt, l)
word-sound version text w rest e r s l (Some k) h =
    let f = key_at-some version.keywords w k h in
    ((rest, record { whole = e; fits = (f.0, f.1, s) }), tt, l)

number-sound : (version : Version) (text w rest : List ℕ) → text ≡ w ++ rest
    → IsStretch is_digit is_digit w → Stops is_digit rest → 0 < length w → (v : Bool)
    → leb (value_of w) version.largest ≡ v
    → Sound version text (cond v (Ok (Word (kind.Number (value_of w)) w)) (Err Lex3))
number-sound version text w rest e r s l true k =
    ((rest, record { whole = e; fits = (refl, r, s) }), grind (arith, nat_tests), l)
number-sound version text w rest e r s l false k =
    inr (
      refl,
      (value_of w, w, rest, record { whole = e; fits = (refl, r, s) }, grind (arith, nat_tests)),
    )

one-sign-sound : (version : Version) (b : ℕ) (t : List ℕ)
    → Sound version (b ∷ t) (sign_piece (b ∷ t) (one_sign b))
one-sign-sound version b t =
    test sign.Colon 58 refl _
    (test sign.Bar 124 refl _ (test sign.ParenLeft 40 refl _ (test sign.ParenRight 41 refl _
    (test sign.SquareLeft 91 refl _ (test sign.SquareRight 93 refl _ (test sign.Comma 44 refl _
    (test sign.Semicolon 59 refl _ (test sign.Slash 47 refl None (inl refl)))))))))
  where
    test : (s : Sign) (n : ℕ) → sign_bytes s ≡ n ∷ [] → (o : Option (Sign × ℕ))
        → Sound version (b ∷ t) (sign_piece (b ∷ t) o)
        → Sound version (b ∷ t) (sign_piece (b ∷ t) (cond (eqb b n) (Some (s, 1)) o))
    test s n e o other = elim (eqb b n) as (λ v.
        eqb b n ≡ v → Sound version (b ∷ t) (sign_piece (b ∷ t) (cond v (Some (s, 1)) o))) [
          | true ↦ λ q.
              let is : b ≡ n = grind (arith, nat_tests) in
              ((t, record { whole = refl; fits = rw is (sym e) }), tt, omega arith)
          | false ↦ λ q. other
        ] refl

sign-sound : (version : Version) (b : ℕ) (t : List ℕ)
    → Sound version (b ∷ t) (sign_piece (b ∷ t) (sign_at (b ∷ t)))
sign-sound version b [] = one-sign-sound version b []
sign-sound version b (c ∷ t) = arrow (eqb b 61) refl (eqb c 62) refl
  where
    arrow : (v : Bool) → eqb b 61 ≡ v → (u : Bool) → eqb c 62 ≡ u
        → Sound version (b ∷ c ∷ t)
        (sign_piece (b ∷ c ∷ t) (cond v (cond u (Some (sign.Arrow, 2)) None) (one_sign b)))
    arrow false e u k = one-sign-sound version b (c ∷ t)
    arrow true e false k = inl refl
    arrow true e true k =
        let p : b ≡ 61 = grind (arith, nat_tests) in
        let q : c ≡ 62 = grind (arith, nat_tests) in
        ((t, record { whole = refl; fits = rw (p, q) refl }), tt, omega arith)

scan-sound-cons : (version : Version) (b : ℕ) (t : List ℕ)
    → Sound version (b ∷ t) (scan version (b ∷ t))
scan-sound-cons version b t = blank (is_blank b) refl
  where
    digit : (v : Bool) → is_digit b ≡ v
        → Sound version (b ∷ t) (cond v (number_piece version (take_while is_digit (b ∷ t)))
        (sign_piece (b ∷ t) (sign_at (b ∷ t))))
    digit true e =
        let f = front-run is_digit is_digit b t e e in
        number-sound version (b ∷ t) _ f.rest f.whole f.run f.stop f.some _ refl
    digit false e = sign-sound version b t

    lower : (v : Bool) → is_lower b ≡ v
        → Sound version (b ∷ t) (cond v (Ok (word_piece version (take_while in_word (b ∷ t))))
        (cond (is_digit b) (number_piece version (take_while is_digit (b ∷ t)))
        (sign_piece (b ∷ t) (sign_at (b ∷ t)))))
    lower true e =
        let f = front-run is_lower in_word b t e ((lower-not b e).2) in
        word-sound version (b ∷ t) _ f.rest f.whole f.run f.stop f.some _ refl
    lower false e = digit (is_digit b) refl

    hash : (v : Bool) → eqb b 35 ≡ v
        → Sound version (b ∷ t) (cond v (Ok (Gap (take_while in_line (b ∷ t))))
        (cond (is_lower b) (Ok (word_piece version (take_while in_word (b ∷ t))))
        (cond (is_digit b) (number_piece version (take_while is_digit (b ∷ t)))
        (sign_piece (b ∷ t) (sign_at (b ∷ t))))))
    hash true e =
        let f = front-run is_hash in_line b t e ((hash-not b e).1) in
        ((f.rest, record { whole = f.whole; fits = inr (f.run, f.stop) }), tt, f.some)
    hash false e = lower (is_lower b) refl

    blank : (v : Bool) → is_blank b ≡ v
        → Sound version (b ∷ t)
        (cond v (Ok (Gap (take 1 (b ∷ t)))) (cond (eqb b 35) (Ok (Gap (take_while in_line (b ∷ t))))
        (cond (is_lower b) (Ok (word_piece version (take_while in_word (b ∷ t))))
        (cond (is_digit b) (number_piece version (take_while is_digit (b ∷ t)))
        (sign_piece (b ∷ t) (sign_at (b ∷ t)))))))
    blank true e = ((t, record { whole = refl; fits = inl (b, refl, e) }), tt, omega arith)
    blank false e = hash (eqb b 35) refl

pub scan-sound : (version : Version) (text : List ℕ) → text ≢ []
    → Sound version text (scan version text)
scan-sound version [] n = absurd (n refl)
scan-sound version (b ∷ t) n = scan-sound-cons version b t

-- where the scan finds no token, no piece begins
pub scan-none : (version : Version) (text : List ℕ) → scan version text ≡ Err Lex2
    → (p : Piece) (more : List ℕ) → BeginsWith version p text more → ⊥
scan-none version text e p more b =
    let f = begins-found version p text more b in
    let not_small : IsSmall version p → ⊥ = λ s. let q = f.0 s in cc in
    let large : scan version text ≡ Err Lex3 = f.1 not_small in cc
