-- Where tokens stand, and what is kept of them.
use Rattle.std.proofs.Common.{◌≡◌, ℕ, zero, suc, ◌+◌, ◌<◌, Bool, true, false, ◌&&◌, eqb, List, []}
use Rattle.std.proofs.Common.{◌∷◌, length, drop, refl, sym, ap, ◌∙◌, subst, arith, length-drop}
use Rattle.std.proofs.Common.{Result, Ok, Err}
use Rattle.std.specs.Result.{IfOk}
use Rattle.std.proofs.lemmas.Bool.Decides.{nat_tests}
use Rattle.std.proofs.lemmas.List.{length-map}
use Rattle.std.proofs.lemmas.Slice.Eq.{bytes_eq-Decides}
use Rattle.join_base.specs.declared.fault.Front.{Front}
use Rattle.join_lex.specs.declared.token.Sign.TheVariants as sign
use Rattle.join_lex.specs.declared.token.Kind2.{Kind2}
use Rattle.join_lex.specs.declared.token.Kind2.TheVariants as kind
use Rattle.join_lex.specs.declared.token.Token.{Token}
use Rattle.join_lex.specs.Versions.{version_word, says_second, is_version_word, is_two}
use Rattle.join_lex.specs.Versions.{is_semicolon}
use Rattle.join_parse.specs.Terminals.{Terminal, a_name, a_number, a_sign, terminal_of, terminals}
use Rattle.join_parse.specs.Source.{Process}
use Rattle.join_parse.specs.Grammar.{opening, of_process, IsProcess}
use Rattle.join_parse.specs.inside.Parsed.{terms, places, SpellsNumber, SpellsProcess}
use Rattle.join_parse.proofs.Expansions.{both-true}

kept : (ts : List Token) → length (terminals ts) ≡ length ts
kept ts = length-map ts (λ token. terminal_of token.kind token.span.from)

pub placed-at : (ts : List Token) (at : ℕ) (t : Token) (rest : List Token) → drop at ts ≡ t ∷ rest
    → places ts (length (terminals rest)) ≡ t.span.from
placed-at [] zero t rest e = cc
placed-at [] (suc at) t rest e = cc
placed-at (x ∷ xs) zero t rest e =
    let same : x ≡ t = cc in
    let tail : xs ≡ rest = cc in
    let n : eqb (length (terminals rest)) (length xs) ≡ true =
    here (length (terminals rest)) (length xs) (kept rest ∙ ap length (sym tail)) in
    rw n (ap (λ (t : Token). t.span.from) same)
  where
    here : (m n : ℕ) → m ≡ n → eqb m n ≡ true
    here m n e = grind (arith, nat_tests)
placed-at (x ∷ xs) (suc at) t rest e =
    let tail : drop at xs ≡ t ∷ rest = e in
    let less : length (terminals rest) < length xs =
    omega (arith, kept rest, length-drop at xs, ap length tail) in
    let n : eqb (length (terminals rest)) (length xs) ≡ false =
    elsewhere (length (terminals rest)) (length xs) less in
    rw n (placed-at xs at t rest tail)
  where
    elsewhere : (m n : ℕ) → m < n → eqb m n ≡ false
    elsewhere m n l = grind (arith, nat_tests)

-- a number whose place isn't kept
pub number-spelled : (ts : List Token) (at : ℕ) (t : Token) (n : ℕ)
    → drop at ts ≡ t ∷ drop (at + 1) ts → t.kind ≡ kind.Number n → SpellsNumber ts at n (at + 1)
number-spelled ts at t n e k =
    ap terminals e ∙ ap (λ k. terminal_of k t.span.from ∷ terms ts (at + 1)) k
    ∙ ap (λ p. a_number n p ∷ terms ts (at + 1)) (sym (placed-at ts at t (drop (at + 1) ts) e))

word-terminal : (k : Kind2) (from : ℕ) → is_version_word k ≡ true
    → terminal_of k from ≡ a_name version_word from
word-terminal (kind.Ident t) from e =
    ap (λ x. a_name x from) ((bytes_eq-Decides t version_word).0 e)
word-terminal (kind.Number n) from e = cc
word-terminal (kind.Key j) from e = cc
word-terminal (kind.Sign s) from e = cc

two-terminal : (k : Kind2) (from : ℕ) → is_two k ≡ true → terminal_of k from ≡ a_number 2 from
two-terminal (kind.Ident t) from e = cc
two-terminal (kind.Number n) from e =
    let z : n ≡ 2 = grind (arith, nat_tests) in
    ap (λ m. a_number m from) z
two-terminal (kind.Key j) from e = cc
two-terminal (kind.Sign s) from e = cc

semicolon-terminal : (k : Kind2) (from : ℕ) → is_semicolon k ≡ true
    → terminal_of k from ≡ a_sign sign.Semicolon
semicolon-terminal (kind.Ident t) from e = cc
semicolon-terminal (kind.Number n) from e = cc
semicolon-terminal (kind.Key j) from e = cc
semicolon-terminal (kind.Sign sign.Semicolon) from e = refl
semicolon-terminal (kind.Sign s) from e = cc

-- what says that a text is of the second version
opens : (ts : List Token) → says_second ts ≡ true
    → terms ts 0 ≡ opening (places ts) true (terms ts 3)
opens [] e = cc
opens (x ∷ []) e = cc
opens (x ∷ y ∷ []) e = cc
opens (x ∷ y ∷ z ∷ more) e =
    let v = both-true (is_version_word x.kind && is_two y.kind) (is_semicolon z.kind) e in
    let u = both-true (is_version_word x.kind) (is_two y.kind) v.0 in
    let ts : List Token = x ∷ y ∷ z ∷ more in
    let a = word-terminal x.kind x.span.from u.0
    ∙ ap (a_name version_word) (sym (placed-at ts 0 x (y ∷ z ∷ more) refl)) in
    let b = two-terminal y.kind y.span.from u.1
    ∙ ap (a_number 2) (sym (placed-at ts 1 y (z ∷ more) refl)) in
    let c = semicolon-terminal z.kind z.span.from v.1 in
    λ i. a i ∷ b i ∷ c i ∷ terminals more

pub opening-spelled : (ts : List Token) (second : Bool) → second ≡ true → says_second ts ≡ true
    → terms ts 0 ≡ opening (places ts) second (terms ts 3)
opening-spelled ts second s e =
    subst (λ v. terms ts 0 ≡ opening (places ts) v (terms ts 3)) (sym s) (opens ts e)

-- an operation behind its keyword
pub operation-spelled :
    (second : Bool) (ts : List Token) (at : ℕ) (t : Terminal) (r : Result (Process × ℕ) Front)
    → terms ts at ≡ t ∷ terms ts (at + 1) → IfOk r (λ x. IsProcess second x.0)
    → IfOk r (λ x. t ∷ terms ts (at + 1) ≡ of_process (places ts) x.0 (terms ts x.1))
    → IfOk r (λ x. SpellsProcess second ts at x.0 x.1)
operation-spelled second ts at t (Ok x) e i s = (i, e ∙ s)
operation-spelled second ts at t (Err f) e i s = tt
