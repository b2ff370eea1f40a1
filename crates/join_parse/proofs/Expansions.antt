-- What a symbol becomes where the next token tells which alternative it is.
use Rattle.std.proofs.Common.{◌≡◌, ◌⊎◌, inl, inr, ℕ, ◌+◌, ◌≤◌, ◌<◌, Bool, true, false, not, ◌&&◌}
use Rattle.std.proofs.Common.{List, [], ◌∷◌, drop, refl, ap, ◌∙◌, arith, ltb}
use Rattle.std.proofs.lemmas.Bool.Decides.{nat_tests}
use Rattle.std.proofs.lemmas.List.{drop-drop}
use Rattle.join_base.specs.declared.fault.Kind.TheVariants.{Grammar1, Grammar2}
use Rattle.join_lex.specs.declared.token.Key.TheVariants as key
use Rattle.join_lex.specs.declared.token.Sign.TheVariants as sign
use Rattle.join_lex.specs.declared.token.Kind2.{Kind2}
use Rattle.join_lex.specs.declared.token.Kind2.TheVariants as kind
use Rattle.join_lex.specs.declared.token.Token.{Token}
use Rattle.join_lex.specs.Versions.{says_second, is_version_word, is_two, is_semicolon}
use Rattle.join_parse.specs.declared.bounds.Bounds.{Bounds}
use Rattle.join_parse.specs.Begins.{Symbol, AName, AVersion, ATwo, ACount, ASite, AKey, ASign}
use Rattle.join_parse.specs.Begins.{CloseGroup, CloseSquare, EndDef, Program, Sites, Body, Defs}
use Rattle.join_parse.specs.Begins.{MoreDefs, DefRest, MorePatterns, Names, MoreNames, AnArg, Args}
use Rattle.join_parse.specs.Begins.{MoreArgs, AProc, MoreProcs, start}
use Rattle.join_parse.specs.inside.Automaton.{is_key, is_sign, is_name, is_number, step, Push}
use Rattle.join_parse.specs.inside.Automaton.{level, Stop, outcome}
use Rattle.join_parse.specs.inside.Parsed.{next_is_sign, next_is_key, next_is_name, next_is_zero}
use Rattle.join_parse.specs.inside.Parsed.{place_of}
use Rattle.join_parse.proofs.Moves.{sign-kind, key-kind, takes, deepens, stops, stops-at-end}

pub both-true : (a b : Bool) → (a && b) ≡ true → (a ≡ true) × (b ≡ true)
both-true true b e = (refl, e)
both-true false b e = cc

def-step : (second : Bool)
    → step second AProc (kind.Key key.Def)
    ≡ Push (Defs false ∷ AKey key.Inside ∷ AProc ∷ EndDef ∷ [])
def-step true = refl
def-step false = refl

module _ (b : Bounds) where
  -- brackets that close a level are signs
  pub close-group : (rest : List Token) (stack : List Symbol)
      → outcome b rest (CloseGroup ∷ stack) ≡ outcome b rest (ASign sign.ParenRight ∷ stack)
  unfolding outcome
  close-group [] stack = refl
  close-group (t ∷ ts) stack = refl

  pub close-square : (rest : List Token) (stack : List Symbol)
      → outcome b rest (CloseSquare ∷ stack) ≡ outcome b rest (ASign sign.SquareRight ∷ stack)
  unfolding outcome
  close-square [] stack = refl
  close-square (t ∷ ts) stack = refl

  pub end-def : (rest : List Token) (stack : List Symbol)
      → outcome b rest (EndDef ∷ stack) ≡ outcome b rest stack
  unfolding outcome
  end-def [] stack = refl
  end-def (t ∷ ts) stack = refl

  pub names-none : (rest : List Token) (stack : List Symbol)
      → next_is_sign sign.ParenRight rest ≡ true
      → outcome b rest (Names ∷ stack) ≡ outcome b rest (ASign sign.ParenRight ∷ stack)
  unfolding outcome
  names-none [] stack e = cc
  names-none (t ∷ ts) stack e = rw (sign-kind sign.ParenRight t.kind e) refl

  pub names-some : (rest : List Token) (stack : List Symbol)
      → next_is_sign sign.ParenRight rest ≡ false
      → outcome b rest (Names ∷ stack) ≡ outcome b rest (AName ∷ MoreNames 1 ∷ stack)
  unfolding outcome
  names-some [] stack e = refl
  names-some (t ∷ ts) stack e = either (is_name t.kind) refl
    where
      either : (v : Bool) → is_name t.kind ≡ v
          → outcome b (t ∷ ts) (Names ∷ stack) ≡ outcome b (t ∷ ts) (AName ∷ MoreNames 1 ∷ stack)
      either true q = rw (e, q) refl
      either false q = rw (e, q) refl

  pub more_names-comma : (n : ℕ) (rest : List Token) (stack : List Symbol) → n < 255
      → next_is_sign sign.Comma rest ≡ true
      → outcome b rest (MoreNames n ∷ stack)
      ≡ outcome b rest (ASign sign.Comma ∷ AName ∷ MoreNames (n + 1) ∷ stack)
  unfolding outcome
  more_names-comma n [] stack l e = cc
  more_names-comma n (t ∷ ts) stack l e =
      let few : ltb n 255 ≡ true = grind (arith, nat_tests) in
      rw (sign-kind sign.Comma t.kind e, few) refl

  pub more_names-close : (n : ℕ) (rest : List Token) (stack : List Symbol)
      → next_is_sign sign.Comma rest ≡ false ⊎ 255 ≤ n
      → outcome b rest (MoreNames n ∷ stack) ≡ outcome b rest (ASign sign.ParenRight ∷ stack)
  unfolding outcome
  more_names-close n [] stack h = refl
  more_names-close n (t ∷ ts) stack h = either (is_sign sign.ParenRight t.kind) refl (other h)
    where
      other : next_is_sign sign.Comma (t ∷ ts) ≡ false ⊎ 255 ≤ n
          → (is_sign sign.Comma t.kind && ltb n 255) ≡ false
      other (inl e) = rw e refl
      other (inr l) =
          let many : ltb n 255 ≡ false = grind (arith, nat_tests) in
          both (is_sign sign.Comma t.kind) (ltb n 255) many
        where
          both : (a b : Bool) → b ≡ false → (a && b) ≡ false
          both true b e = e
          both false b e = refl

      either : (v : Bool) → is_sign sign.ParenRight t.kind ≡ v
          → (is_sign sign.Comma t.kind && ltb n 255) ≡ false
          → outcome b (t ∷ ts) (MoreNames n ∷ stack)
          ≡ outcome b (t ∷ ts) (ASign sign.ParenRight ∷ stack)
      either true q e = rw q refl
      either false q e = rw (q, e) refl

  pub args-none : (rest : List Token) (stack : List Symbol)
      → next_is_sign sign.ParenRight rest ≡ true
      → outcome b rest (Args ∷ stack) ≡ outcome b rest (ASign sign.ParenRight ∷ stack)
  unfolding outcome
  args-none [] stack e = cc
  args-none (t ∷ ts) stack e = rw (sign-kind sign.ParenRight t.kind e) refl

  pub args-some : (rest : List Token) (stack : List Symbol)
      → next_is_sign sign.ParenRight rest ≡ false
      → outcome b rest (Args ∷ stack) ≡ outcome b rest (AnArg ∷ MoreArgs 1 ∷ stack)
  unfolding outcome
  args-some [] stack e = refl
  args-some (t ∷ ts) stack e = either (is_name t.kind) refl (b.second && is_number t.kind) refl
    where
      either : (v : Bool) → is_name t.kind ≡ v → (w : Bool) → (b.second && is_number t.kind) ≡ w
          → outcome b (t ∷ ts) (Args ∷ stack) ≡ outcome b (t ∷ ts) (AnArg ∷ MoreArgs 1 ∷ stack)
      either true q w r = rw (e, q) refl
      either false q true r = rw (e, q, r) refl
      either false q false r = rw (e, q, r) refl

  pub more_args-comma : (n : ℕ) (rest : List Token) (stack : List Symbol) → n < 255
      → next_is_sign sign.Comma rest ≡ true
      → outcome b rest (MoreArgs n ∷ stack)
      ≡ outcome b rest (ASign sign.Comma ∷ AnArg ∷ MoreArgs (n + 1) ∷ stack)
  unfolding outcome
  more_args-comma n [] stack l e = cc
  more_args-comma n (t ∷ ts) stack l e =
      let few : ltb n 255 ≡ true = grind (arith, nat_tests) in
      rw (sign-kind sign.Comma t.kind e, few) refl

  pub more_args-close : (n : ℕ) (rest : List Token) (stack : List Symbol)
      → next_is_sign sign.Comma rest ≡ false ⊎ 255 ≤ n
      → outcome b rest (MoreArgs n ∷ stack) ≡ outcome b rest (ASign sign.ParenRight ∷ stack)
  unfolding outcome
  more_args-close n [] stack h = refl
  more_args-close n (t ∷ ts) stack h = either (is_sign sign.ParenRight t.kind) refl (other h)
    where
      other : next_is_sign sign.Comma (t ∷ ts) ≡ false ⊎ 255 ≤ n
          → (is_sign sign.Comma t.kind && ltb n 255) ≡ false
      other (inl e) = rw e refl
      other (inr l) =
          let many : ltb n 255 ≡ false = grind (arith, nat_tests) in
          both (is_sign sign.Comma t.kind) (ltb n 255) many
        where
          both : (a b : Bool) → b ≡ false → (a && b) ≡ false
          both true b e = e
          both false b e = refl

      either : (v : Bool) → is_sign sign.ParenRight t.kind ≡ v
          → (is_sign sign.Comma t.kind && ltb n 255) ≡ false
          → outcome b (t ∷ ts) (MoreArgs n ∷ stack)
          ≡ outcome b (t ∷ ts) (ASign sign.ParenRight ∷ stack)
      either true q e = rw q refl
      either false q e = rw (q, e) refl

  pub more_patterns-bar : (rest : List Token) (stack : List Symbol)
      → next_is_sign sign.Bar rest ≡ true → outcome b rest (MorePatterns ∷ stack) ≡ outcome b rest
      (ASign sign.Bar ∷ AName ∷ ASign sign.ParenLeft ∷ Names ∷ MorePatterns ∷ stack)
  unfolding outcome
  more_patterns-bar [] stack e = cc
  more_patterns-bar (t ∷ ts) stack e = rw (sign-kind sign.Bar t.kind e) refl

  pub more_patterns-arrow : (rest : List Token) (stack : List Symbol)
      → next_is_sign sign.Bar rest ≡ false
      → outcome b rest (MorePatterns ∷ stack) ≡ outcome b rest (ASign sign.Arrow ∷ stack)
  unfolding outcome
  more_patterns-arrow [] stack e = refl
  more_patterns-arrow (t ∷ ts) stack e = either (is_sign sign.Arrow t.kind) refl
    where
      either : (v : Bool) → is_sign sign.Arrow t.kind ≡ v
          → outcome b (t ∷ ts) (MorePatterns ∷ stack)
          ≡ outcome b (t ∷ ts) (ASign sign.Arrow ∷ stack)
      either true q = rw q refl
      either false q = rw (q, e) refl

  pub defs-void : (within : Bool) (rest : List Token) (stack : List Symbol)
      → next_is_key key.Void rest ≡ true
      → outcome b rest (Defs within ∷ stack) ≡ outcome b rest (AKey key.Void ∷ stack)
  unfolding outcome
  defs-void within [] stack e = cc
  defs-void within (t ∷ ts) stack e = rw (key-kind key.Void t.kind e) refl

  pub defs-some : (within : Bool) (rest : List Token) (stack : List Symbol)
      → next_is_key key.Void rest ≡ false
      → outcome b rest (Defs within ∷ stack)
      ≡ outcome b rest (AName ∷ DefRest within ∷ MoreDefs within ∷ stack)
  unfolding outcome
  defs-some within [] stack e = refl
  defs-some within (t ∷ ts) stack e = either (is_name t.kind) refl
    where
      either : (v : Bool) → is_name t.kind ≡ v
          → outcome b (t ∷ ts) (Defs within ∷ stack)
          ≡ outcome b (t ∷ ts) (AName ∷ DefRest within ∷ MoreDefs within ∷ stack)
      either true q = rw (e, q) refl
      either false q = rw (e, q) refl

  pub more_defs-and : (within : Bool) (rest : List Token) (stack : List Symbol)
      → next_is_key key.And rest ≡ true
      → outcome b rest (MoreDefs within ∷ stack)
      ≡ outcome b rest (AKey key.And ∷ AName ∷ DefRest within ∷ MoreDefs within ∷ stack)
  unfolding outcome
  more_defs-and within [] stack e = cc
  more_defs-and within (t ∷ ts) stack e = rw (key-kind key.And t.kind e) refl

  pub more_defs-end : (within : Bool) (rest : List Token) (stack : List Symbol)
      → next_is_key key.And rest ≡ false
      → outcome b rest (MoreDefs within ∷ stack) ≡ outcome b rest stack
  unfolding outcome
  more_defs-end within [] stack e = refl
  more_defs-end within (t ∷ ts) stack e = rw e refl

  -- a definition with `[` behind its name is a place, and any other one a rule
  pub def-place : (rest : List Token) (stack : List Symbol)
      → next_is_sign sign.SquareLeft (drop 1 rest) ≡ true
      → outcome b rest (AName ∷ DefRest false ∷ stack) ≡ outcome b rest (AName ∷ Body true ∷ stack)
  unfolding outcome
  def-place [] stack e = refl
  def-place (t ∷ []) stack e = cc
  def-place (t ∷ u ∷ ts) stack e = either (is_name t.kind) refl
    where
      either : (v : Bool) → is_name t.kind ≡ v
          → outcome b (t ∷ u ∷ ts) (AName ∷ DefRest false ∷ stack)
          ≡ outcome b (t ∷ u ∷ ts) (AName ∷ Body true ∷ stack)
      either true q = rw (q, sign-kind sign.SquareLeft u.kind e) refl
      either false q = rw q refl

  pub def-rule : (within : Bool) (rest : List Token) (stack : List Symbol)
      → (not within && next_is_sign sign.SquareLeft (drop 1 rest)) ≡ false
      → outcome b rest (AName ∷ DefRest within ∷ stack)
      ≡ outcome b rest (AName ∷ ASign sign.ParenLeft ∷ Names ∷ MorePatterns ∷ AProc ∷ stack)
  unfolding outcome
  def-rule within [] stack e = refl
  def-rule within (t ∷ []) stack e = either (is_name t.kind) refl
    where
      either : (v : Bool) → is_name t.kind ≡ v
          → outcome b (t ∷ []) (AName ∷ DefRest within ∷ stack)
          ≡ outcome b (t ∷ []) (AName ∷ ASign sign.ParenLeft ∷ Names ∷ MorePatterns ∷ AProc ∷ stack)
      either true q = rw q refl
      either false q = rw q refl
  def-rule within (t ∷ u ∷ ts) stack e =
      either (is_name t.kind) (is_sign sign.ParenLeft u.kind) refl refl
    where
      either : (w v : Bool) → is_name t.kind ≡ w → is_sign sign.ParenLeft u.kind ≡ v
          → outcome b (t ∷ u ∷ ts) (AName ∷ DefRest within ∷ stack)
          ≡ outcome b (t ∷ u ∷ ts)
          (AName ∷ ASign sign.ParenLeft ∷ Names ∷ MorePatterns ∷ AProc ∷ stack)
      either true true p q = rw (p, q) refl
      either true false p q = rw (p, q, e) refl
      either false v p q = rw p refl

  pub body-opens : (within : Bool) (rest : List Token) (stack : List Symbol)
      → next_is_sign sign.SquareLeft rest ≡ true → level stack < b.levels
      → outcome b rest (Body within ∷ stack)
      ≡ outcome b (drop 1 rest) (Defs within ∷ ASign sign.Colon ∷ AProc ∷ CloseSquare ∷ stack)
  body-opens within [] stack e l = cc
  body-opens within (t ∷ ts) stack e l = takes b (t ∷ ts) ts t (Body within) stack
      (Defs within ∷ ASign sign.Colon ∷ AProc ∷ CloseSquare ∷ []) refl (rw e refl) (omega arith)

  pub body-deep : (within : Bool) (rest : List Token) (stack : List Symbol)
      → next_is_sign sign.SquareLeft rest ≡ true → b.levels ≤ level stack
      → outcome b rest (Body within ∷ stack) ≡ Stop Grammar2 (place_of b.end rest)
  body-deep within [] stack e l = cc
  body-deep within (t ∷ ts) stack e l = deepens b (t ∷ ts) ts t (Body within) stack
      (Defs within ∷ ASign sign.Colon ∷ AProc ∷ CloseSquare ∷ []) refl (rw e refl) (omega arith)

  pub body-stops : (within : Bool) (rest : List Token) (stack : List Symbol)
      → next_is_sign sign.SquareLeft rest ≡ false
      → outcome b rest (Body within ∷ stack) ≡ Stop Grammar1 (place_of b.end rest)
  body-stops within [] stack e = stops-at-end b [] (Body within) stack refl refl
  body-stops within (t ∷ ts) stack e = stops b (t ∷ ts) ts t (Body within) stack refl (rw e refl)

  pub proc-zero : (rest : List Token) (stack : List Symbol) → next_is_zero rest ≡ true
      → level stack ≤ b.levels
      → outcome b rest (AProc ∷ stack) ≡ outcome b (drop 1 rest) (MoreProcs ∷ stack)
  proc-zero [] stack e l = cc
  proc-zero (t ∷ ts) stack e l =
      takes b (t ∷ ts) ts t AProc stack (MoreProcs ∷ []) refl (rw e refl) l

  pub proc-message : (rest : List Token) (stack : List Symbol) → next_is_name rest ≡ true
      → outcome b rest (AProc ∷ stack)
      ≡ outcome b rest (AName ∷ ASign sign.ParenLeft ∷ Args ∷ MoreProcs ∷ stack)
  unfolding outcome
  proc-message [] stack e = cc
  proc-message (t ∷ ts) stack e = by t.kind refl e
    where
      by : (k : Kind2) → t.kind ≡ k → is_name k ≡ true
          → outcome b (t ∷ ts) (AProc ∷ stack)
          ≡ outcome b (t ∷ ts) (AName ∷ ASign sign.ParenLeft ∷ Args ∷ MoreProcs ∷ stack)
      by (kind.Ident x) q e = rw q refl
      by (kind.Number x) q e = cc
      by (kind.Key x) q e = cc
      by (kind.Sign x) q e = cc

  pub proc-group : (rest : List Token) (stack : List Symbol)
      → next_is_sign sign.ParenLeft rest ≡ true → level stack < b.levels
      → outcome b rest (AProc ∷ stack)
      ≡ outcome b (drop 1 rest) (AProc ∷ CloseGroup ∷ MoreProcs ∷ stack)
  proc-group [] stack e l = cc
  proc-group (t ∷ ts) stack e l =
      takes b (t ∷ ts) ts t AProc stack (AProc ∷ CloseGroup ∷ MoreProcs ∷ []) refl
      (rw (sign-kind sign.ParenLeft t.kind e) refl) (omega arith)

  pub proc-group-deep : (rest : List Token) (stack : List Symbol)
      → next_is_sign sign.ParenLeft rest ≡ true → b.levels ≤ level stack
      → outcome b rest (AProc ∷ stack) ≡ Stop Grammar2 (place_of b.end rest)
  proc-group-deep [] stack e l = cc
  proc-group-deep (t ∷ ts) stack e l =
      deepens b (t ∷ ts) ts t AProc stack (AProc ∷ CloseGroup ∷ MoreProcs ∷ []) refl
      (rw (sign-kind sign.ParenLeft t.kind e) refl) (omega arith)

  pub proc-halt : (rest : List Token) (stack : List Symbol) → next_is_key key.Halt rest ≡ true
      → outcome b rest (AProc ∷ stack)
      ≡ outcome b rest
      (AKey key.Halt ∷ ASign sign.ParenLeft ∷ ASign sign.ParenRight ∷ MoreProcs ∷ stack)
  unfolding outcome
  proc-halt [] stack e = cc
  proc-halt (t ∷ ts) stack e = rw (key-kind key.Halt t.kind e) refl

  pub proc-go : (rest : List Token) (stack : List Symbol) → next_is_key key.Go rest ≡ true
      → outcome b rest (AProc ∷ stack)
      ≡ outcome b rest (AKey key.Go ∷ ASign sign.ParenLeft ∷ AName ∷ ASign sign.Comma ∷ AName
      ∷ ASign sign.ParenRight ∷ MoreProcs ∷ stack)
  unfolding outcome
  proc-go [] stack e = cc
  proc-go (t ∷ ts) stack e = rw (key-kind key.Go t.kind e) refl

  pub proc-fail : (rest : List Token) (stack : List Symbol) → next_is_key key.Fail rest ≡ true
      → outcome b rest (AProc ∷ stack)
      ≡ outcome b rest (AKey key.Fail ∷ ASign sign.ParenLeft ∷ AName ∷ ASign sign.Comma ∷ AName
      ∷ ASign sign.ParenRight ∷ MoreProcs ∷ stack)
  unfolding outcome
  proc-fail [] stack e = cc
  proc-fail (t ∷ ts) stack e = rw (key-kind key.Fail t.kind e) refl

  pub proc-add : (rest : List Token) (stack : List Symbol)
      → (b.second && next_is_key key.Add rest) ≡ true
      → outcome b rest (AProc ∷ stack)
      ≡ outcome b rest (AKey key.Add ∷ ASign sign.ParenLeft ∷ AnArg ∷ ASign sign.Comma ∷ AnArg
      ∷ ASign sign.Comma ∷ AName ∷ ASign sign.ParenRight ∷ MoreProcs ∷ stack)
  unfolding outcome
  proc-add rest stack e = by rest (both-true b.second (next_is_key key.Add rest) e)
    where
      by : (rest : List Token) → (b.second ≡ true) × (next_is_key key.Add rest ≡ true)
          → outcome b rest (AProc ∷ stack)
          ≡ outcome b rest (AKey key.Add ∷ ASign sign.ParenLeft ∷ AnArg ∷ ASign sign.Comma ∷ AnArg
          ∷ ASign sign.Comma ∷ AName ∷ ASign sign.ParenRight ∷ MoreProcs ∷ stack)
      by [] (s, e) = cc
      by (t ∷ ts) (s, e) = rw (s, key-kind key.Add t.kind e) refl

  pub proc-same : (rest : List Token) (stack : List Symbol)
      → (b.second && next_is_key key.Same rest) ≡ true
      → outcome b rest (AProc ∷ stack)
      ≡ outcome b rest
      (AKey key.Same ∷ ASign sign.ParenLeft ∷ AnArg ∷ ASign sign.Comma ∷ AnArg ∷ ASign sign.Comma
      ∷ AName ∷ ASign sign.Comma ∷ AName ∷ ASign sign.ParenRight ∷ MoreProcs ∷ stack)
  unfolding outcome
  proc-same rest stack e = by rest (both-true b.second (next_is_key key.Same rest) e)
    where
      by : (rest : List Token) → (b.second ≡ true) × (next_is_key key.Same rest ≡ true)
          → outcome b rest (AProc ∷ stack)
          ≡ outcome b rest (AKey key.Same ∷ ASign sign.ParenLeft ∷ AnArg ∷ ASign sign.Comma ∷ AnArg
          ∷ ASign sign.Comma ∷ AName ∷ ASign sign.Comma ∷ AName ∷ ASign sign.ParenRight ∷ MoreProcs
          ∷ stack)
      by [] (s, e) = cc
      by (t ∷ ts) (s, e) = rw (s, key-kind key.Same t.kind e) refl

  pub proc-def : (rest : List Token) (stack : List Symbol) → next_is_key key.Def rest ≡ true
      → level stack < b.levels
      → outcome b rest (AProc ∷ stack)
      ≡ outcome b (drop 1 rest) (Defs false ∷ AKey key.Inside ∷ AProc ∷ EndDef ∷ stack)
  proc-def [] stack e l = cc
  proc-def (t ∷ ts) stack e l =
      takes b (t ∷ ts) ts t AProc stack (Defs false ∷ AKey key.Inside ∷ AProc ∷ EndDef ∷ []) refl
      (rw (key-kind key.Def t.kind e) (def-step b.second)) (omega arith)

  pub proc-def-deep : (rest : List Token) (stack : List Symbol) → next_is_key key.Def rest ≡ true
      → b.levels ≤ level stack
      → outcome b rest (AProc ∷ stack) ≡ Stop Grammar2 (place_of b.end rest)
  proc-def-deep [] stack e l = cc
  proc-def-deep (t ∷ ts) stack e l =
      deepens b (t ∷ ts) ts t AProc stack (Defs false ∷ AKey key.Inside ∷ AProc ∷ EndDef ∷ []) refl
      (rw (key-kind key.Def t.kind e) (def-step b.second)) (omega arith)

  pub proc-stops : (rest : List Token) (stack : List Symbol) → next_is_zero rest ≡ false
      → next_is_name rest ≡ false → next_is_sign sign.ParenLeft rest ≡ false
      → next_is_key key.Halt rest ≡ false → next_is_key key.Go rest ≡ false
      → next_is_key key.Fail rest ≡ false → (b.second && next_is_key key.Add rest) ≡ false
      → (b.second && next_is_key key.Same rest) ≡ false → next_is_key key.Def rest ≡ false
      → outcome b rest (AProc ∷ stack) ≡ Stop Grammar1 (place_of b.end rest)
  proc-stops [] stack z n p h g f a s d = stops-at-end b [] AProc stack refl refl
  proc-stops (t ∷ ts) stack z n p h g f a s d =
      stops b (t ∷ ts) ts t AProc stack refl (rw (z, n, p, h, g, f, a, s, d) refl)

  -- a `|` leads to another process, and anything else ends the process
  pub procs-bar : (rest : List Token) (stack : List Symbol) → next_is_sign sign.Bar rest ≡ true
      → level stack ≤ b.levels
      → outcome b rest (MoreProcs ∷ stack) ≡ outcome b (drop 1 rest) (AProc ∷ stack)
  procs-bar [] stack e l = cc
  procs-bar (t ∷ ts) stack e l =
      takes b (t ∷ ts) ts t MoreProcs stack (AProc ∷ []) refl (rw e refl) l

  pub procs-end : (rest : List Token) (stack : List Symbol) → next_is_sign sign.Bar rest ≡ false
      → outcome b rest (MoreProcs ∷ stack) ≡ outcome b rest stack
  unfolding outcome
  procs-end [] stack e = refl
  procs-end (t ∷ ts) stack e = rw e refl

  pub program-observe : (rest : List Token) (stack : List Symbol)
      → next_is_key key.Observe rest ≡ true
      → outcome b rest (Program ∷ stack)
      ≡ outcome b rest (AKey key.Observe ∷ AName ∷ ASign sign.Slash ∷ ACount ∷ ASign sign.Semicolon
      ∷ Program ∷ stack)
  unfolding outcome
  program-observe [] stack e = cc
  program-observe (t ∷ ts) stack e = rw (key-kind key.Observe t.kind e) refl

  pub program-site : (rest : List Token) (stack : List Symbol)
      → next_is_key key.Observe rest ≡ false
      → outcome b rest (Program ∷ stack)
      ≡ outcome b rest (ASite ∷ AName ∷ Body false ∷ Sites ∷ stack)
  unfolding outcome
  program-site [] stack e = refl
  program-site (t ∷ ts) stack e = either (is_key key.Site t.kind) refl
    where
      either : (v : Bool) → is_key key.Site t.kind ≡ v
          → outcome b (t ∷ ts) (Program ∷ stack)
          ≡ outcome b (t ∷ ts) (ASite ∷ AName ∷ Body false ∷ Sites ∷ stack)
      either true q = rw (e, q) refl
      either false q = rw (e, q) refl

  pub sites-more : (rest : List Token) (stack : List Symbol) → next_is_key key.Site rest ≡ true
      → outcome b rest (Sites ∷ stack) ≡ outcome b rest (ASite ∷ AName ∷ Body false ∷ Sites ∷ stack)
  unfolding outcome
  sites-more [] stack e = cc
  sites-more (t ∷ ts) stack e = rw e refl

  pub sites-end : (rest : List Token) (stack : List Symbol) → next_is_key key.Site rest ≡ false
      → outcome b rest (Sites ∷ stack) ≡ outcome b rest stack
  unfolding outcome
  sites-end [] stack e = refl
  sites-end (t ∷ ts) stack e = rw e refl

  -- the tokens that say that a text is of the second version
  pub opening-runs : (rest : List Token) → b.second ≡ true → says_second rest ≡ true
      → outcome b rest (start b.second) ≡ outcome b (drop 3 rest) (Program ∷ [])
  opening-runs [] s e = cc
  opening-runs (x ∷ []) s e = cc
  opening-runs (x ∷ y ∷ []) s e = cc
  opening-runs (x ∷ y ∷ z ∷ ts) s e =
      let v = both-true (is_version_word x.kind && is_two y.kind) (is_semicolon z.kind) e in
      let w = both-true (is_version_word x.kind) (is_two y.kind) v.0 in
      ap (λ o. outcome b (x ∷ y ∷ z ∷ ts) (start o)) s
      ∙ takes b (x ∷ y ∷ z ∷ ts) (y ∷ z ∷ ts) x AVersion
      (ATwo ∷ ASign sign.Semicolon ∷ Program ∷ []) [] refl (rw w.0 refl) (omega arith)
      ∙ takes b (y ∷ z ∷ ts) (z ∷ ts) y ATwo (ASign sign.Semicolon ∷ Program ∷ []) [] refl
      (rw w.1 refl) (omega arith)
      ∙ takes b (z ∷ ts) ts z (ASign sign.Semicolon) (Program ∷ []) [] refl
      (rw (semicolon z.kind v.1) refl) (omega arith)
    where
      semicolon : (k : Kind2) → is_semicolon k ≡ true → is_sign sign.Semicolon k ≡ true
      semicolon (kind.Ident t) e = cc
      semicolon (kind.Number n) e = cc
      semicolon (kind.Key j) e = cc
      semicolon (kind.Sign sign.Semicolon) e = refl
      semicolon (kind.Sign t) e = cc

  pub opening-none : (rest : List Token) → b.second ≡ false
      → outcome b rest (start b.second) ≡ outcome b (drop 0 rest) (Program ∷ [])
  opening-none rest s = ap (λ o. outcome b rest (start o)) s

  -- the same at a place of the tokens
  at-next : (ts : List Token) (at : ℕ) (stack : List Symbol)
      → outcome b (drop 1 (drop at ts)) stack ≡ outcome b (drop (at + 1) ts) stack
  at-next ts at stack = ap (λ xs. outcome b xs stack) (drop-drop 1 at ts)

  pub body-opens-at : (within : Bool) (ts : List Token) (at : ℕ) (stack : List Symbol)
      → next_is_sign sign.SquareLeft (drop at ts) ≡ true → level stack < b.levels
      → outcome b (drop at ts) (Body within ∷ stack)
      ≡ outcome b (drop (at + 1) ts) (Defs within ∷ ASign sign.Colon ∷ AProc ∷ CloseSquare ∷ stack)
  body-opens-at within ts at stack e l = body-opens within (drop at ts) stack e l ∙ at-next ts at _

  pub proc-zero-at : (ts : List Token) (at : ℕ) (stack : List Symbol)
      → next_is_zero (drop at ts) ≡ true → level stack ≤ b.levels
      → outcome b (drop at ts) (AProc ∷ stack) ≡ outcome b (drop (at + 1) ts) (MoreProcs ∷ stack)
  proc-zero-at ts at stack e l = proc-zero (drop at ts) stack e l ∙ at-next ts at _

  pub proc-group-at : (ts : List Token) (at : ℕ) (stack : List Symbol)
      → next_is_sign sign.ParenLeft (drop at ts) ≡ true → level stack < b.levels
      → outcome b (drop at ts) (AProc ∷ stack)
      ≡ outcome b (drop (at + 1) ts) (AProc ∷ CloseGroup ∷ MoreProcs ∷ stack)
  proc-group-at ts at stack e l = proc-group (drop at ts) stack e l ∙ at-next ts at _

  pub proc-def-at : (ts : List Token) (at : ℕ) (stack : List Symbol)
      → next_is_key key.Def (drop at ts) ≡ true → level stack < b.levels
      → outcome b (drop at ts) (AProc ∷ stack)
      ≡ outcome b (drop (at + 1) ts) (Defs false ∷ AKey key.Inside ∷ AProc ∷ EndDef ∷ stack)
  proc-def-at ts at stack e l = proc-def (drop at ts) stack e l ∙ at-next ts at _

  pub procs-bar-at : (ts : List Token) (at : ℕ) (stack : List Symbol)
      → next_is_sign sign.Bar (drop at ts) ≡ true → level stack ≤ b.levels
      → outcome b (drop at ts) (MoreProcs ∷ stack) ≡ outcome b (drop (at + 1) ts) (AProc ∷ stack)
  procs-bar-at ts at stack e l = procs-bar (drop at ts) stack e l ∙ at-next ts at _

  pub def-place-at : (within : Bool) (ts : List Token) (at : ℕ) (stack : List Symbol)
      → (not within && next_is_sign sign.SquareLeft (drop (at + 1) ts)) ≡ true
      → outcome b (drop at ts) (AName ∷ DefRest within ∷ stack)
      ≡ outcome b (drop at ts) (AName ∷ Body true ∷ stack)
  def-place-at true ts at stack e = cc
  def-place-at false ts at stack e =
      def-place (drop at ts) stack (ap (next_is_sign sign.SquareLeft) (drop-drop 1 at ts) ∙ e)

  pub def-rule-at : (within : Bool) (ts : List Token) (at : ℕ) (stack : List Symbol)
      → (not within && next_is_sign sign.SquareLeft (drop (at + 1) ts)) ≡ false
      → outcome b (drop at ts) (AName ∷ DefRest within ∷ stack)
      ≡ outcome b (drop at ts) (AName ∷ ASign sign.ParenLeft ∷ Names ∷ MorePatterns ∷ AProc ∷ stack)
  def-rule-at within ts at stack e = def-rule within (drop at ts) stack
      (ap (λ xs. not within && next_is_sign sign.SquareLeft xs) (drop-drop 1 at ts) ∙ e)
