-- What the automaton does with what comes next.
use Rattle.std.proofs.Common.{Bool, cond, ◌≡◌, ℕ, ◌+◌, ◌≤◌, ◌<◌, true, false, List, [], ◌∷◌, ◌++◌}
use Rattle.std.proofs.Common.{length, drop, refl, sym, ap, ◌∙◌, arith, leb, length-drop, Result, Ok}
use Rattle.std.proofs.Common.{Err}
use Rattle.std.specs.Result.{IsErrAnd}
use Rattle.std.proofs.lemmas.Bool.Decides.{nat_tests}
use Rattle.std.proofs.lemmas.List.{drop-drop}
use Rattle.std.proofs.lemmas.Result.{err_from_is_err_and}
use Rattle.join_base.specs.declared.fault.Front.{Front}
use Rattle.join_base.specs.declared.fault.Front.TheVariants.{Refused, Memory}
use Rattle.join_base.specs.declared.fault.Kind.TheVariants.{Grammar1, Grammar2}
use Rattle.join_lex.specs.declared.token.Key.{Key}
use Rattle.join_lex.specs.declared.token.Key.TheVariants as key
use Rattle.join_lex.specs.declared.token.Sign.{Sign}
use Rattle.join_lex.specs.declared.token.Kind2.{Kind2}
use Rattle.join_lex.specs.declared.token.Kind2.TheVariants as kind
use Rattle.join_lex.specs.declared.token.Token.{Token}
use Rattle.join_parse.specs.declared.bounds.Bounds.{Bounds}
use Rattle.join_parse.specs.Terminals.{a_sign}
use Rattle.join_parse.specs.Begins.{Symbol, AName, AnArg, ACount, ASign}
use Rattle.join_parse.specs.inside.Automaton.{is_key, is_sign, Push, Pass, No, step, may_pass}
use Rattle.join_parse.specs.inside.Automaton.{level, Stop, outcome}
use Rattle.join_parse.specs.inside.Parsed.{next_is_sign, next_is_key, place_of, key_symbol, AtMost}
use Rattle.join_parse.specs.inside.Parsed.{Reads, StopsSo, Fails}
use Rattle.join_parse.proofs.Steps.{sign-is}

-- the kind of a token that a test has found
pub sign-kind : (s : Sign) (k : Kind2) → is_sign s k ≡ true → k ≡ kind.Sign s
sign-kind s (kind.Ident t) e = cc
sign-kind s (kind.Number n) e = cc
sign-kind s (kind.Key j) e = cc
sign-kind s (kind.Sign t) e =
    let h : a_sign t ≡ a_sign s = sign-is s (kind.Sign t) 0 e in
    let same : t ≡ s = cc in
    ap kind.Sign same

pub key-kind : (j : Key) (k : Kind2) → is_key j k ≡ true → k ≡ kind.Key j
key-kind j (kind.Ident t) e = cc
key-kind j (kind.Number n) e = cc
key-kind j (kind.Sign s) e = cc
key-kind j (kind.Key i) e = ap kind.Key (same i j e)
  where
    same : (i j : Key) → is_key j (kind.Key i) ≡ true → i ≡ j
    same key.Observe key.Observe e = refl
    same key.Site key.Site e = refl
    same key.Def key.Def e = refl
    same key.Inside key.Inside e = refl
    same key.And key.And e = refl
    same key.Go key.Go e = refl
    same key.Fail key.Fail e = refl
    same key.Halt key.Halt e = refl
    same key.Void key.Void e = refl
    same key.Add key.Add e = refl
    same key.Same key.Same e = refl
    same i j e = cc

key_symbol-step : (second : Bool) (j : Key) (k : Kind2)
    → step second (key_symbol j) k ≡ cond (is_key j k) (Push []) No
key_symbol-step second key.Observe k = refl
key_symbol-step second key.Site k = refl
key_symbol-step second key.Def k = refl
key_symbol-step second key.Inside k = refl
key_symbol-step second key.And k = refl
key_symbol-step second key.Go k = refl
key_symbol-step second key.Fail k = refl
key_symbol-step second key.Halt k = refl
key_symbol-step second key.Void k = refl
key_symbol-step second key.Add k = refl
key_symbol-step second key.Same k = refl

key_symbol-pass : (j : Key) → may_pass (key_symbol j) ≡ false
key_symbol-pass key.Observe = refl
key_symbol-pass key.Site = refl
key_symbol-pass key.Def = refl
key_symbol-pass key.Inside = refl
key_symbol-pass key.And = refl
key_symbol-pass key.Go = refl
key_symbol-pass key.Fail = refl
key_symbol-pass key.Halt = refl
key_symbol-pass key.Void = refl
key_symbol-pass key.Add = refl
key_symbol-pass key.Same = refl

module _ (b : Bounds) where
  -- one token, against the symbol that is expected
  pub takes : (rest us : List Token) (t : Token) (s : Symbol) (stack more : List Symbol)
      → rest ≡ t ∷ us → step b.second s t.kind ≡ Push more → level (more ++ stack) ≤ b.levels
      → outcome b rest (s ∷ stack) ≡ outcome b us (more ++ stack)
  unfolding outcome
  takes rest us t s stack more e p l =
      let low : leb (level (more ++ stack)) b.levels ≡ true = grind (arith, nat_tests) in
      rw (e, p, low) refl

  pub deepens : (rest us : List Token) (t : Token) (s : Symbol) (stack more : List Symbol)
      → rest ≡ t ∷ us → step b.second s t.kind ≡ Push more → b.levels < level (more ++ stack)
      → outcome b rest (s ∷ stack) ≡ Stop Grammar2 (place_of b.end rest)
  unfolding outcome
  deepens rest us t s stack more e p l =
      let deep : leb (level (more ++ stack)) b.levels ≡ false = grind (arith, nat_tests) in
      rw (e, p, deep) refl

  pub passes : (rest us : List Token) (t : Token) (s : Symbol) (stack : List Symbol) → rest ≡ t ∷ us
      → step b.second s t.kind ≡ Pass → outcome b rest (s ∷ stack) ≡ outcome b rest stack
  unfolding outcome
  passes rest us t s stack e p = rw (e, p) refl

  pub stops : (rest us : List Token) (t : Token) (s : Symbol) (stack : List Symbol) → rest ≡ t ∷ us
      → step b.second s t.kind ≡ No
      → outcome b rest (s ∷ stack) ≡ Stop Grammar1 (place_of b.end rest)
  unfolding outcome
  stops rest us t s stack e p = rw (e, p) refl

  pub stops-at-end : (rest : List Token) (s : Symbol) (stack : List Symbol) → rest ≡ []
      → may_pass s ≡ false → outcome b rest (s ∷ stack) ≡ Stop Grammar1 (place_of b.end rest)
  unfolding outcome
  stops-at-end rest s stack e p = rw (e, p) refl

  -- a symbol that is one token
  pub one-reads : (s : Symbol) (ts : List Token) (at : ℕ) (t : Token)
      → drop at ts ≡ t ∷ drop (at + 1) ts → at + 1 ≤ length ts → step b.second s t.kind ≡ Push []
      → Reads b (AtMost b.levels) ts at (s ∷ []) (at + 1) []
  one-reads s ts at t e l p = record {
    runs = λ stack h. takes (drop at ts) (drop (at + 1) ts) t s stack [] e p h;
    further = omega arith;
    within = l;
  }

  next-token : (ts : List Token) (at : ℕ) → at + 1 ≤ length ts
      → (t : Token) × (drop at ts ≡ t ∷ drop (at + 1) ts)
  next-token ts at l = split (drop at ts) refl
    where
      split : (us : List Token) → drop at ts ≡ us
          → (t : Token) × (drop at ts ≡ t ∷ drop (at + 1) ts)
      split [] e = absurd (omega (arith, length-drop at ts, ap length e))
      split (t ∷ us) e =
          let h : drop 1 (drop at ts) ≡ us = ap (λ xs. drop 1 xs) e in
          let g : us ≡ drop (at + 1) ts = sym h ∙ drop-drop 1 at ts in
          (t, e ∙ ap (λ xs. t ∷ xs) g)

  pub sign-reads : (s : Sign) (ts : List Token) (at : ℕ) → next_is_sign s (drop at ts) ≡ true
      → at + 1 ≤ length ts → Reads b (AtMost b.levels) ts at (ASign s ∷ []) (at + 1) []
  sign-reads s ts at q l =
      let n = next-token ts at l in
      one-reads (ASign s) ts at n.0 n.1 l
      (let h : is_sign s n.0.kind ≡ true = rw n.1 at q in rw h refl)

  pub sign-stops : (s : Sign) (rest : List Token) → next_is_sign s rest ≡ false
      → (stack : List Symbol)
      → outcome b rest (ASign s ∷ stack) ≡ Stop Grammar1 (place_of b.end rest)
  sign-stops s [] q stack = stops-at-end [] (ASign s) stack refl refl
  sign-stops s (t ∷ ts) q stack = stops (t ∷ ts) ts t (ASign s) stack refl (rw q refl)

  pub key-reads : (j : Key) (ts : List Token) (at : ℕ) → next_is_key j (drop at ts) ≡ true
      → at + 1 ≤ length ts → Reads b (AtMost b.levels) ts at (key_symbol j ∷ []) (at + 1) []
  key-reads j ts at q l =
      let n = next-token ts at l in
      one-reads (key_symbol j) ts at n.0 n.1 l (let h : is_key j n.0.kind ≡ true = rw n.1 at q in
      rw (key_symbol-step b.second j n.0.kind, h) refl)

  pub key-stops : (j : Key) (rest : List Token) → next_is_key j rest ≡ false → (stack : List Symbol)
      → outcome b rest (key_symbol j ∷ stack) ≡ Stop Grammar1 (place_of b.end rest)
  key-stops j [] q stack = stops-at-end [] (key_symbol j) stack refl (key_symbol-pass j)
  key-stops j (t ∷ ts) q stack =
      stops (t ∷ ts) ts t (key_symbol j) stack refl (rw (key_symbol-step b.second j t.kind, q) refl)

  -- Where the next part stops, the whole does.
  pub halts-before :
      (P : ℕ → Type 0) (ts : List Token) (at : ℕ) (ss : List Symbol) (P' : ℕ → Type 0) (at' : ℕ)
      (ss' : List Symbol) (then : List Symbol → List Symbol) (e : Front)
      → ((stack : List Symbol) → P (level stack)
      → outcome b (drop at ts) (ss ++ stack) ≡ outcome b (drop at' ts) (ss' ++ then stack))
      → ((stack : List Symbol) → P (level stack) → P' (level (then stack)))
      → StopsSo b P' ts at' ss' e → StopsSo b P ts at ss e
  halts-before P ts at ss P' at' ss' then (Refused kind place) path fits halts =
      λ stack h. path stack h ∙ halts (then stack) (fits stack h)
  halts-before P ts at ss P' at' ss' then Memory path fits halts = tt

pub name-step : (second : Bool) (k : Kind2) (text : List ℕ) → k ≡ kind.Ident text
    → step second AName k ≡ Push []
name-step second k text e = rw e refl

pub name-step-no : (second : Bool) (k : Kind2) → ((text : List ℕ) → k ≡ kind.Ident text → ⊥)
    → step second AName k ≡ No
name-step-no second (kind.Ident t) n = absurd (n t refl)
name-step-no second (kind.Number m) n = refl
name-step-no second (kind.Key j) n = refl
name-step-no second (kind.Sign s) n = refl

pub count-step : (second : Bool) (k : Kind2) (n : ℕ) → k ≡ kind.Number n → n ≤ 255
    → step second ACount k ≡ Push []
count-step second k n e l =
    let low : leb n 255 ≡ true = grind (arith, nat_tests) in
    rw (e, low) refl

pub count-step-large : (second : Bool) (k : Kind2) (n : ℕ) → k ≡ kind.Number n → 255 < n
    → step second ACount k ≡ No
count-step-large second k n e l =
    let large : leb n 255 ≡ false = grind (arith, nat_tests) in
    rw (e, large) refl

pub count-step-no : (second : Bool) (k : Kind2) → ((n : ℕ) → k ≡ kind.Number n → ⊥)
    → step second ACount k ≡ No
count-step-no second (kind.Ident t) n = refl
count-step-no second (kind.Number m) n = absurd (n m refl)
count-step-no second (kind.Key j) n = refl
count-step-no second (kind.Sign s) n = refl

pub arg-step-word : (second : Bool) (k : Kind2) (text : List ℕ) → k ≡ kind.Ident text
    → step second AnArg k ≡ Push []
arg-step-word second k text e = rw e refl

pub arg-step-number : (second : Bool) (k : Kind2) (n : ℕ) → k ≡ kind.Number n → second ≡ true
    → step second AnArg k ≡ Push []
arg-step-number second k n e s = rw (e, s) refl

pub arg-step-first : (second : Bool) (k : Kind2) (n : ℕ) → k ≡ kind.Number n → second ≡ false
    → step second AnArg k ≡ No
arg-step-first second k n e s = rw (e, s) refl

pub arg-step-no : (second : Bool) (k : Kind2) → ((text : List ℕ) → k ≡ kind.Ident text → ⊥)
    → ((n : ℕ) → k ≡ kind.Number n → second ≡ true → ⊥) → step second AnArg k ≡ No
arg-step-no second (kind.Ident t) n m = absurd (n t refl)
arg-step-no true (kind.Number i) n m = absurd (m i refl refl)
arg-step-no false (kind.Number i) n m = refl
arg-step-no true (kind.Key j) n m = refl
arg-step-no false (kind.Key j) n m = refl
arg-step-no true (kind.Sign s) n m = refl
arg-step-no false (kind.Sign s) n m = refl

-- The exit of a `?`: where the next part stops, the whole does.
pub exit-before :
    (b : Bounds) (P : ℕ → Type 0) (ts : List Token) (at : ℕ) (ss : List Symbol) (P' : ℕ → Type 0)
    (at' : ℕ) (ss' : List Symbol) (then : List Symbol → List Symbol)
    → ((stack : List Symbol) → P (level stack)
    → outcome b (drop at ts) (ss ++ stack) ≡ outcome b (drop at' ts) (ss' ++ then stack))
    → ((stack : List Symbol) → P (level stack) → P' (level (then stack)))
    → {T : Type 0} (r : Result T Front) (e : Front) → IsErrAnd r (λ y. y ≡ e)
    → StopsSo b P' ts at' ss' e → Fails b P ts at ss r
exit-before b P ts at ss P' at' ss' then path fits r e q h =
    let p = err_from_is_err_and r q in
    rw (p.1, p.2) (halts-before b P ts at ss P' at' ss' then e path fits h)

-- the same of a last call whose answer is returned as it is
pub fails-before :
    (b : Bounds) (P : ℕ → Type 0) (ts : List Token) (at : ℕ) (ss : List Symbol) (P' : ℕ → Type 0)
    (at' : ℕ) (ss' : List Symbol) (then : List Symbol → List Symbol)
    → ((stack : List Symbol) → P (level stack)
    → outcome b (drop at ts) (ss ++ stack) ≡ outcome b (drop at' ts) (ss' ++ then stack))
    → ((stack : List Symbol) → P (level stack) → P' (level (then stack)))
    → {T : Type 0} (r : Result T Front) → Fails b P' ts at' ss' r → Fails b P ts at ss r
fails-before b P ts at ss P' at' ss' then path fits (Ok x) f = tt
fails-before b P ts at ss P' at' ss' then path fits (Err e) f =
    halts-before b P ts at ss P' at' ss' then e path fits f
