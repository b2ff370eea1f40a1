-- A text has one version, and its first three tokens tell which.
use Rattle.std.proofs.Common.{◌≡◌, ◌⊎◌, ℕ, zero, suc, Bool, true, false, ◌&&◌, eqb, ◌+◌, ◌≤◌, ◌<◌}
use Rattle.std.proofs.Common.{List, [], ◌∷◌, ◌++◌, length, drop, refl, sym, ap, ◌∙◌, inl, inr}
use Rattle.std.proofs.Common.{subst, arith, append-nil, length-append}
use Rattle.std.proofs.lemmas.Bool.Decides.{nat_tests}
use Rattle.std.specs.Str.{bytes_eq}
use Rattle.std.proofs.lemmas.Slice.Eq.{bytes_eq-Decides}
use Rattle.chem_model.specs.Each.{Each, IsIn}
use Rattle.join_base.specs.declared.fault.Front.{Front}
use Rattle.join_base.specs.declared.fault.Front.TheVariants as front
use Rattle.join_lex.specs.declared.token.Key.{Key}
use Rattle.join_lex.specs.declared.token.Key.TheVariants as key
use Rattle.join_lex.specs.declared.token.Kind2.{Kind2}
use Rattle.join_lex.specs.declared.token.Kind2.TheVariants as kind
use Rattle.join_lex.specs.declared.token.Token.{Token}
use Rattle.join_lex.specs.Spelling.{Version, first_version, second_version, version_at, key_bytes}
use Rattle.join_lex.specs.Spelling.{IsIdentifier}
use Rattle.join_lex.specs.Tokens.{TokensOfText}
use Rattle.join_lex.specs.Versions.{version_word, says_second, version_of, is_version_word, is_two}
use Rattle.join_lex.specs.Versions.{is_semicolon}
use Rattle.join_lex.specs.Lexical.{Fault, Piece, Gap, Word, BeginsWith, Fits, SpellsToken, Stops}
use Rattle.join_lex.specs.Lexical.{IsSmall, Splits, tokens_at, IsSecond, IsOf, AreTokensIn}
use Rattle.join_lex.specs.Lexical.{AreTokensOf, TellVersion, IsSpelledAt, HoldSpellings}
use Rattle.join_lex.specs.Lexical.{IsFirstFaultIn, IsFirstFault, Names, NamesFault, IsOneOutcome}
use Rattle.join_lex.specs.Lexical.{HasOneOutcome, NoToken, LargeNumber}
use Rattle.join_lex.specs.inside.Scan.{ScanFails}
use Rattle.join_lex.specs.inside.Steps.{StepsTo}
use Rattle.std.proofs.lemmas.List.{drop_all}
use Rattle.join_lex.proofs.Passed.{Passed}
use Rattle.join_lex.proofs.StepLaws.{stops-refused, passed-step, found-small, same-rest, Ends}
use Rattle.join_lex.proofs.StepLaws.{ends-empty, ends-none, ends-large, total, tokens_at-more}
use Rattle.join_lex.proofs.StepLaws.{Ending, ending, outcome}
use Rattle.join_lex.proofs.TokenFacts.{spelled_tokens}

-- Of two ways to cut a text into pieces one goes on from the other.
abbrev pub Goes : Version → List Piece → List Piece → List ℕ → List ℕ → Type 0
Goes version ps qs r s = (more : List Piece) × (ps ≡ qs ++ more) × Splits version more s r

pub compare : (version : Version) (ps qs : List Piece) (text r s : List ℕ)
    → Splits version ps text r → Splits version qs text s
    → Goes version ps qs r s ⊎ Goes version qs ps s r
compare version [] qs text r s e f = inr (qs, refl, subst (λ x. Splits version qs x s) e f)
compare version (p ∷ ps) [] text r s e f =
    inl (p ∷ ps, refl, subst (λ x. Splits version (p ∷ ps) x r) f e)
compare version (p ∷ ps) (q ∷ qs) text r s (more, c, j, t) (next, d, k, u) =
    let x = found-small version p text more c j in
    let y = found-small version q text next d k in
    let same : p ≡ q = cc in
    let d' = rw (← same) at d in
    let m : more ≡ next = same-rest version p text more next c d' in
    let u' = rw (← m) at u in
    longer same (compare version ps qs more r s t u')
  where
    longer : p ≡ q → Goes version ps qs r s ⊎ Goes version qs ps s r
        → Goes version (p ∷ ps) (q ∷ qs) r s ⊎ Goes version (q ∷ qs) (p ∷ ps) s r
    longer same (inl (more, e, t)) = inl (more, cc, t)
    longer same (inr (more, e, t)) = inr (more, cc, t)

-- the pieces up to so many tokens
pub cut : (version : Version) (n : ℕ) (ps : List Piece) (text rest : List ℕ) (place : ℕ)
    → Splits version ps text rest → n ≤ length (tokens_at place ps)
    → (hs : List Piece) × (mid : List ℕ) × (more : List Piece) × Splits version hs text mid
    × (ps ≡ hs ++ more) × (length (tokens_at place hs) ≡ n)
cut version zero ps text rest place s l = ([], text, ps, refl, refl, refl)
cut version (suc n) [] text rest place s l = absurd (omega (arith, l))
cut version (suc n) (Gap g ∷ ps) text rest place (more, b, j, t) l =
    let c = cut version (suc n) ps more rest (place + length g) t l in
    (Gap g ∷ c.0, c.1, c.2, (more, b, j, c.3), ap (λ xs. Gap g ∷ xs) c.4, c.5)
cut version (suc n) (Word k w ∷ ps) text rest place (more, b, j, t) l =
    let c = cut version n ps more rest (place + length w) t (omega (arith, l)) in
    (Word k w ∷ c.0, c.1, c.2, (more, b, j, c.3), ap (λ xs. Word k w ∷ xs) c.4, omega (arith, c.5))

-- what the first three tokens say
pub says-more : (ts us : List Token) → 3 ≤ length ts → says_second (ts ++ us) ≡ says_second ts
says-more [] us l = absurd (omega (arith, l))
says-more (a ∷ []) us l = absurd (omega (arith, l))
says-more (a ∷ b ∷ []) us l = absurd (omega (arith, l))
says-more (a ∷ b ∷ c ∷ ts) us l = refl

pub says-few : (ts : List Token) → length ts ≤ 2 → says_second ts ≡ false
says-few [] l = refl
says-few (a ∷ []) l = refl
says-few (a ∷ b ∷ []) l = refl
says-few (a ∷ b ∷ c ∷ ts) l = absurd (omega (arith, l))

says-long : (ts : List Token) → says_second ts ≡ true → 3 ≤ length ts
says-long [] e = cc
says-long (a ∷ []) e = cc
says-long (a ∷ b ∷ []) e = cc
says-long (a ∷ b ∷ c ∷ ts) e = omega arith

both : (a b : Bool) → (a && b) ≡ true → (a ≡ true) × (b ≡ true)
both true b e = (refl, e)
both false b e = cc

-- A token that both versions have: `version`, 2 or a sign.
abbrev pub IsShared : Kind2 → Type 0
IsShared (kind.Ident name) = name ≡ version_word
IsShared (kind.Number n) = n ≡ 2
IsShared (kind.Key k) = ⊥
IsShared (kind.Sign s) = Unit {0}

shared-word : (k : Kind2) → is_version_word k ≡ true → IsShared k
shared-word (kind.Ident name) e = (bytes_eq-Decides name version_word).0 e
shared-word (kind.Number n) e = cc
shared-word (kind.Key k) e = cc
shared-word (kind.Sign s) e = cc

shared-two : (k : Kind2) → is_two k ≡ true → IsShared k
shared-two (kind.Ident name) e = cc
shared-two (kind.Number n) e = grind (arith, nat_tests)
shared-two (kind.Key k) e = cc
shared-two (kind.Sign s) e = cc

shared-semicolon : (k : Kind2) → is_semicolon k ≡ true → IsShared k
shared-semicolon (kind.Ident name) e = cc
shared-semicolon (kind.Number n) e = cc
shared-semicolon (kind.Key k) e = cc
shared-semicolon (kind.Sign s) e = tt

says-shared : (ts : List Token) → length ts ≤ 3 → says_second ts ≡ true
    → Each (λ t. IsShared t.kind) ts
says-shared [] l e = tt
says-shared (a ∷ []) l e = cc
says-shared (a ∷ b ∷ []) l e = cc
says-shared (a ∷ b ∷ c ∷ []) l e =
    let x = both (is_version_word a.kind && is_two b.kind) (is_semicolon c.kind) e in
    let y = both (is_version_word a.kind) (is_two b.kind) x.0 in
    (shared-word a.kind y.0, (shared-two b.kind y.1, (shared-semicolon c.kind x.1, tt)))
says-shared (a ∷ b ∷ c ∷ d ∷ ts) l e = absurd (omega (arith, l))

-- Such a token is one in the second version where it is one in the first.
key-shared : (k : Key) → IsIn k first_version.keywords → IsIn k second_version.keywords
key-shared k (inl e) = inl e
key-shared k (inr (inl e)) = inr (inl e)
key-shared k (inr (inr (inl e))) = inr (inr (inl e))
key-shared k (inr (inr (inr (inl e)))) = inr (inr (inr (inl e)))
key-shared k (inr (inr (inr (inr (inl e))))) = inr (inr (inr (inr (inl e))))
key-shared k (inr (inr (inr (inr (inr (inl e)))))) = inr (inr (inr (inr (inr (inl e)))))
key-shared k (inr (inr (inr (inr (inr (inr (inl e))))))) = inr (inr (inr (inr (inr (inr (inl e))))))
key-shared k (inr (inr (inr (inr (inr (inr (inr (inl e)))))))) =
    inr (inr (inr (inr (inr (inr (inr (inl e)))))))
key-shared k (inr (inr (inr (inr (inr (inr (inr (inr (inl e))))))))) =
    inr (inr (inr (inr (inr (inr (inr (inr (inl e))))))))
key-shared k (inr (inr (inr (inr (inr (inr (inr (inr (inr x))))))))) = absurd x

no-key : (k : Key) → version_word ≡ key_bytes k → ⊥
no-key key.Observe e =
    let no : false ≡ true = (bytes_eq-Decides version_word (key_bytes key.Observe)).1 e in
    cc
no-key key.Site e =
    let no : false ≡ true = (bytes_eq-Decides version_word (key_bytes key.Site)).1 e in
    cc
no-key key.Def e =
    let no : false ≡ true = (bytes_eq-Decides version_word (key_bytes key.Def)).1 e in
    cc
no-key key.Inside e =
    let no : false ≡ true = (bytes_eq-Decides version_word (key_bytes key.Inside)).1 e in
    cc
no-key key.And e =
    let no : false ≡ true = (bytes_eq-Decides version_word (key_bytes key.And)).1 e in
    cc
no-key key.Go e =
    let no : false ≡ true = (bytes_eq-Decides version_word (key_bytes key.Go)).1 e in
    cc
no-key key.Fail e =
    let no : false ≡ true = (bytes_eq-Decides version_word (key_bytes key.Fail)).1 e in
    cc
no-key key.Halt e =
    let no : false ≡ true = (bytes_eq-Decides version_word (key_bytes key.Halt)).1 e in
    cc
no-key key.Void e =
    let no : false ≡ true = (bytes_eq-Decides version_word (key_bytes key.Void)).1 e in
    cc
no-key key.Add e =
    let no : false ≡ true = (bytes_eq-Decides version_word (key_bytes key.Add)).1 e in
    cc
no-key key.Same e =
    let no : false ≡ true = (bytes_eq-Decides version_word (key_bytes key.Same)).1 e in
    cc

fits-shared : (k : Kind2) (w rest : List ℕ) → IsShared k → SpellsToken first_version k w rest
    → SpellsToken second_version k w rest
fits-shared (kind.Ident name) w rest i (e, (h, n), s) =
    (e, (h, λ k m q. no-key k (sym i ∙ e ∙ q)), s)
fits-shared (kind.Number n) w rest i f = f
fits-shared (kind.Key k) w rest i f = absurd i
fits-shared (kind.Sign s) w rest i f = f

fits-first : (k : Kind2) (w rest : List ℕ) → IsShared k → SpellsToken second_version k w rest
    → SpellsToken first_version k w rest
fits-first (kind.Ident name) w rest i (e, (h, n), s) = (e, (h, λ k m. n k (key-shared k m)), s)
fits-first (kind.Number n) w rest i f = f
fits-first (kind.Key k) w rest i f = absurd i
fits-first (kind.Sign s) w rest i f = f

small-first : (k : Kind2) (w : List ℕ) → IsShared k → IsSmall first_version (Word k w)
small-first (kind.Ident name) w i = tt
small-first (kind.Number n) w i = omega (arith, i)
small-first (kind.Key k) w i = tt
small-first (kind.Sign s) w i = tt

splits-first : (ps : List Piece) (text rest : List ℕ) (place : ℕ)
    → Each (λ t. IsShared t.kind) (tokens_at place ps) → Splits second_version ps text rest
    → Splits first_version ps text rest
splits-first [] text rest place i s = s
splits-first (Gap g ∷ ps) text rest place i (more, b, j, t) = (
  more,
  record { whole = b.whole; fits = b.fits },
  tt,
  splits-first ps more rest (place + length g) i t,
)
splits-first (Word k w ∷ ps) text rest place i (more, b, j, t) = (
  more,
  record { whole = b.whole; fits = fits-first k w more i.0 b.fits },
  small-first k w i.0,
  splits-first ps more rest (place + length w) i.1 t,
)

small-shared : (k : Kind2) (w : List ℕ) → IsSmall first_version (Word k w)
    → IsSmall second_version (Word k w)
small-shared (kind.Ident name) w s = tt
small-shared (kind.Number n) w s = omega (arith, s)
small-shared (kind.Key k) w s = tt
small-shared (kind.Sign s) w h = tt

pub splits-shared : (ps : List Piece) (text rest : List ℕ) (place : ℕ)
    → Each (λ t. IsShared t.kind) (tokens_at place ps) → Splits first_version ps text rest
    → Splits second_version ps text rest
splits-shared [] text rest place i s = s
splits-shared (Gap g ∷ ps) text rest place i (more, b, j, t) = (
  more,
  record { whole = b.whole; fits = b.fits },
  tt,
  splits-shared ps more rest (place + length g) i t,
)
splits-shared (Word k w ∷ ps) text rest place i (more, b, j, t) = (
  more,
  record { whole = b.whole; fits = fits-shared k w more i.0 b.fits },
  small-shared k w j,
  splits-shared ps more rest (place + length w) i.1 t,
)

-- tokens of pieces that go on from others
tokens-of-more : (ps qs more : List Piece) → ps ≡ qs ++ more → 3 ≤ length (tokens_at 0 qs)
    → says_second (tokens_at 0 ps) ≡ says_second (tokens_at 0 qs)
tokens-of-more ps qs more e l =
    ap (λ x. says_second (tokens_at 0 x)) e ∙ ap says_second (tokens_at-more 0 qs more)
    ∙ says-more (tokens_at 0 qs) (tokens_at (0 + total qs) more) l

-- where no piece goes on, none does
nothing-more : (version : Version) (more : List Piece) (r s : List ℕ) → Splits version more r s
    → Ends version r → more ≡ []
nothing-more version [] r s t e = refl
nothing-more version (p ∷ ps) r s (next, b, j, t) e = absurd (e p next b j)

pub not-second : (ps : List Piece) (text rest : List ℕ) → Splits first_version ps text rest
    → (3 ≤ length (tokens_at 0 ps)) ⊎ Ends first_version rest → says_second (tokens_at 0 ps) ≡ false
    → IsSecond text → ⊥
not-second ps text rest split far says s =
    by (compare first_version ps s.pieces text rest s.rest split s.split) far
  where
    clash : says_second (tokens_at 0 ps) ≡ says_second (tokens_at 0 s.pieces) → ⊥
    clash e = let no : false ≡ true = sym says ∙ e ∙ s.says in cc

    by : Goes first_version ps s.pieces rest s.rest ⊎ Goes first_version s.pieces ps s.rest rest
        → (3 ≤ length (tokens_at 0 ps)) ⊎ Ends first_version rest → ⊥
    by (inl (more, e, t)) far = clash (tokens-of-more ps s.pieces more e (omega (arith, s.three)))
    by (inr (more, e, t)) (inl l) = clash (sym (tokens-of-more s.pieces ps more e l))
    by (inr (more, e, t)) (inr end) =
        let none = nothing-more first_version more rest s.rest t end in
        let same : s.pieces ≡ ps = e ∙ ap (λ x. ps ++ x) none ∙ append-nil ps in
        clash (ap (λ x. says_second (tokens_at 0 x)) (sym same))

-- A text has a version,
pub versioned : (text : List ℕ) → (version : Version) × IsOf version text
versioned text = by (ending first_version (length text) text (omega arith))
  where
    by : Ending first_version text → (version : Version) × IsOf version text
    by i = says (says_second (tokens_at 0 i.pieces)) refl
      where
        ended : (rest : List ℕ)
            → (rest ≡ []) ⊎ (NoToken first_version rest ⊎ LargeNumber first_version rest)
            → Ends first_version rest
        ended rest (inl e) = rw e (ends-empty first_version)
        ended rest (inr (inl none)) = ends-none first_version rest none
        ended rest (inr (inr large)) = ends-large first_version rest large

        says : (v : Bool) → says_second (tokens_at 0 i.pieces) ≡ v
            → (version : Version) × IsOf version text
        says true e =
            let c = cut first_version 3 i.pieces text i.rest 0 i.split (says-long _ e) in (
              second_version,
              inl (
                record {
                  pieces = c.0;
                  rest = c.1;
                  split = c.3;
                  three = c.5;
                  says = sym (tokens-of-more i.pieces c.0 c.2 c.4 (omega (arith, c.5))) ∙ e;
                },
                refl,
              ),
            )
        says false e = (
          first_version,
          inr (not-second i.pieces text i.rest i.split (inr (ended i.rest i.end)) e, refl),
        )

-- and no other.
pub one-version : (text : List ℕ) (one other : Version) → IsOf one text → IsOf other text
    → one ≡ other
one-version text one other (inl (s, e)) (inl (t, f)) = e ∙ sym f
one-version text one other (inl (s, e)) (inr (n, f)) = absurd (n s)
one-version text one other (inr (n, e)) (inl (t, f)) = absurd (n t)
one-version text one other (inr (n, e)) (inr (m, f)) = e ∙ sym f

-- what holds in the version of a text
in-version : (text : List ℕ) (P : Version → Type 0) (version : Version) → IsOf version text
    → (v : Version) × IsOf v text × P v → P version
in-version text P version of (v, other, p) = subst P (one-version text v version other of) p

pub whole-outcome : (text : List ℕ) → HasOneOutcome text
whole-outcome text = by (versioned text)
  where
    by : (version : Version) × IsOf version text → HasOneOutcome text
    by (version, of) =
        let o = outcome version text in
        record {
          some = some o.some;
          one_list =
              λ t u a b. o.one_list t u (in-version text (λ v. AreTokensIn v t text) version of a)
              (in-version text (λ v. AreTokensIn v u text) version of b);
          not_both = λ t fault place a f.
              o.not_both t fault place (in-version text (λ v. AreTokensIn v t text) version of a)
              (in-version text (λ v. IsFirstFaultIn v fault place text) version of f);
          one_fault = λ one other place elsewhere f g. o.one_fault one other place elsewhere
              (in-version text (λ v. IsFirstFaultIn v one place text) version of f)
              (in-version text (λ v. IsFirstFaultIn v other elsewhere text) version of g);
        }
      where
        some :
            ((t : TokensOfText) × AreTokensIn version t text)
            ⊎ ((fault : Fault) × (place : ℕ) × IsFirstFaultIn version fault place text)
            → ((t : TokensOfText) × AreTokensOf t text)
            ⊎ ((fault : Fault) × (place : ℕ) × IsFirstFault fault place text)
        some (inl (t, a)) = inl (t, (version, of, a))
        some (inr (fault, place, f)) = inr (fault, place, (version, of, f))

-- The tokens of a text tell its version.
second-says : (text : List ℕ) (ps : List Piece) → IsSecond text → Splits second_version ps text []
    → says_second (tokens_at 0 ps) ≡ true
second-says text ps s split =
    by (compare second_version ps s.pieces text [] s.rest split (splits-shared s.pieces text
    s.rest 0 (says-shared (tokens_at 0 s.pieces) (omega (arith, s.three)) s.says) s.split))
  where
    by : Goes second_version ps s.pieces [] s.rest ⊎ Goes second_version s.pieces ps s.rest []
        → says_second (tokens_at 0 ps) ≡ true
    by (inl (more, e, t)) = tokens-of-more ps s.pieces more e (omega (arith, s.three)) ∙ s.says
    by (inr (more, e, t)) =
        let none = nothing-more second_version more [] s.rest t (ends-empty second_version) in
        let same : s.pieces ≡ ps = e ∙ ap (λ x. ps ++ x) none ∙ append-nil ps in
        ap (λ x. says_second (tokens_at 0 x)) (sym same) ∙ s.says

first-says : (text : List ℕ) (ps : List Piece) → (IsSecond text → ⊥)
    → Splits first_version ps text [] → says_second (tokens_at 0 ps) ≡ false
first-says text ps n split = by (says_second (tokens_at 0 ps)) refl
  where
    by : (v : Bool) → says_second (tokens_at 0 ps) ≡ v → says_second (tokens_at 0 ps) ≡ false
    by false e = e
    by true e =
        let c = cut first_version 3 ps text [] 0 split (says-long _ e) in
        absurd (n (record {
          pieces = c.0;
          rest = c.1;
          split = c.3;
          three = c.5;
          says = sym (tokens-of-more ps c.0 c.2 c.4 (omega (arith, c.5))) ∙ e;
        }))

pub told : (text : List ℕ) (t : TokensOfText) → TellVersion text t
told text t (version, of, a) = subst (λ v. IsOf v text) (by of) of
  where
    by : IsOf version text → version ≡ version_of t.list
    by (inl (s, e)) =
        let says = second-says text a.stand.pieces s
        (subst (λ v. Splits v a.stand.pieces text []) e a.stand.split) in
        let list : says_second t.list ≡ true = ap says_second a.stand.tokens_are ∙ says in
        e ∙ sym (ap version_at list)
    by (inr (n, e)) =
        let says = first-says text a.stand.pieces n
        (subst (λ v. Splits v a.stand.pieces text []) e a.stand.split) in
        let list : says_second t.list ≡ false = ap says_second a.stand.tokens_are ∙ says in
        e ∙ sym (ap version_at list)

pub spellings-held : (text : List ℕ) (t : TokensOfText) → HoldSpellings text t
spellings-held text t a =
    spelled_tokens (version_of t.list) text t
    (in-version text (λ v. AreTokensIn v t text) (version_of t.list) (told text t a) a)

-- A text that is cut into pieces to its end is of the version that their tokens say.
pub is-of : (second : Bool) (ps : List Piece) (text : List ℕ)
    → Splits (version_at second) ps text [] → says_second (tokens_at 0 ps) ≡ second
    → IsOf (version_at second) text
is-of false ps text split says =
    inr (not-second ps text [] split (inr (ends-empty first_version)) says, refl)
is-of true ps text split says =
    let c = cut second_version 3 ps text [] 0 split (says-long _ says) in
    let three : says_second (tokens_at 0 c.0) ≡ true =
    sym (tokens-of-more ps c.0 c.2 c.4 (omega (arith, c.5))) ∙ says in
    inl (
      record {
        pieces = c.0;
        rest = c.1;
        split = splits-first c.0 text c.1 0
            (says-shared (tokens_at 0 c.0) (omega (arith, c.5)) three) c.3;
        three = c.5;
        says = three;
      },
      refl,
    )

-- What the lexer knows behind the first three tokens.
pub record Settled (second : Bool) (text : List ℕ) (place : ℕ) (tokens : List Token) : Type 0 where
  pub passed : Passed (version_at second) text place tokens
  pub says : says_second tokens ≡ second
  pub of : IsOf (version_at second) text
  pub far : (3 ≤ length tokens) ⊎ (length text ≤ place)

-- a fault in the version of the text
pub fault-in : (version : Version) (text : List ℕ) (e : Front) → IsOf version text
    → Names (λ fault place. IsFirstFaultIn version fault place text) e → NamesFault e text
fault-in version text (front.Refused k place) of (fault, is, f) = (fault, is, (version, of, f))
fault-in version text front.Memory of n = tt

-- a fault among the first three tokens
pub early-fault : (text : List ℕ) (place : ℕ) (tokens : List Token) (e : Front)
    → length text ≤ 1048576 → place < length text → Passed first_version text place tokens
    → length tokens ≤ 2 → ScanFails first_version place (drop place text) e → NamesFault e text
early-fault text place tokens front.Memory s l p few h = tt
early-fault text place tokens (front.Refused k at) s l p few h =
    let ends : Ends first_version (drop place text) =
    λ q more b j. let x = found-small first_version q (drop place text) more b j in cc in
    let says : says_second (tokens_at 0 p.pieces) ≡ false =
    ap says_second (sym p.tokens_are) ∙ says-few tokens few in
    fault-in first_version text (front.Refused k at)
    (inr (not-second p.pieces text (drop place text) p.split (inr ends) says, refl))
    (stops-refused first_version text place tokens (front.Refused k at) s l p h)

-- behind the first three tokens the version is known
pub settle : (text : List ℕ) (place : ℕ) (tokens : List Token) (second : Bool)
    → Passed first_version text place tokens → length tokens ≤ 3
    → (3 ≤ length tokens) ⊎ (length text ≤ place) → second ≡ says_second tokens
    → Settled second text place tokens
settle text place tokens true p few far e =
    let says : says_second (tokens_at 0 p.pieces) ≡ true =
    ap says_second (sym p.tokens_are) ∙ sym e in
    let three : length (tokens_at 0 p.pieces) ≡ 3 =
    omega (arith, says-long (tokens_at 0 p.pieces) says, ap length p.tokens_are) in
    record {
      passed = record {
        pieces = p.pieces;
        split = splits-shared p.pieces text (drop place text) 0
            (says-shared (tokens_at 0 p.pieces) (omega (arith, three)) says) p.split;
        within = p.within;
        tokens_are = p.tokens_are;
      };
      says = sym e;
      of = inl (
        record {
          pieces = p.pieces;
          rest = drop place text;
          split = p.split;
          three = three;
          says = says;
        },
        refl,
      );
      far = far;
    }
settle text place tokens false p few far e =
    let says : says_second (tokens_at 0 p.pieces) ≡ false =
    ap says_second (sym p.tokens_are) ∙ sym e in
    record {
      passed = p;
      says = sym e;
      of = inr (not-second p.pieces text (drop place text) p.split (ended far) says, refl);
      far = far;
    }
  where
    ended : (3 ≤ length tokens) ⊎ (length text ≤ place)
        → (3 ≤ length (tokens_at 0 p.pieces)) ⊎ Ends first_version (drop place text)
    ended (inl l) = inl (omega (arith, l, ap length p.tokens_are))
    ended (inr l) = inr (rw (drop_all place text l) (ends-empty first_version))

pub one-longer : (place : ℕ) (p : Piece) (old : List Token)
    → (length old ≤ length (old ++ tokens_at place (p ∷ [])))
    × (length (old ++ tokens_at place (p ∷ [])) ≤ length old + 1)
one-longer place (Gap g) old =
    (omega (arith, length-append old []), omega (arith, length-append old []))
one-longer place (Word k w) old =
    let n = length-append old (tokens_at place (Word k w ∷ [])) in
    (omega (arith, n), omega (arith, n))

pub settled-step : (text : List ℕ) (place upto : ℕ) (second : Bool) (old new : List Token)
    → place < length text → Settled second text place old
    → StepsTo (version_at second) text place upto old new → Settled second text upto new
settled-step text place upto second old new l s step =
    let far : 3 ≤ length old = three s.far in
    record {
      passed = passed-step (version_at second) text place upto old new s.passed step;
      says = ap says_second step.tokens ∙ says-more old (tokens_at place (step.piece ∷ [])) far
          ∙ s.says;
      of = s.of;
      far = inl (omega (arith, far, ap length step.tokens, (one-longer place step.piece old).0));
    }
  where
    three : (3 ≤ length old) ⊎ (length text ≤ place) → 3 ≤ length old
    three (inl l) = l
    three (inr m) = absurd (omega (arith, l, m))
