-- A step of the automaton follows the grammar's rules.
use Rattle.std.proofs.Common.{subst, ◌≡◌, ℕ, ◌<◌, Bool, true, false, cond, List, [], ◌∷◌, ◌++◌}
use Rattle.std.proofs.Common.{refl, ap, arith, Some, ltb, eqb, ◌&&◌, not}
use Rattle.std.proofs.lemmas.Bool.Decides.{nat_tests}
use Rattle.join_lex.specs.declared.token.Key.{Key}
use Rattle.join_lex.specs.declared.token.Key.TheVariants as key
use Rattle.join_lex.specs.declared.token.Sign.{Sign}
use Rattle.join_lex.specs.declared.token.Sign.TheVariants as sign
use Rattle.join_lex.specs.declared.token.Kind2.{Kind2}
use Rattle.join_lex.specs.declared.token.Kind2.TheVariants as kind
use Rattle.join_lex.specs.declared.token.Token.{Token}
use Rattle.join_lex.specs.Versions.{version_word, is_version_word, is_two}
use Rattle.std.proofs.lemmas.Slice.Eq.{bytes_eq-Decides}
use Rattle.join_parse.specs.Terminals.{Terminal, a_key, a_sign, key_terminal, terminal_of}
use Rattle.join_parse.specs.Terminals.{terminals}
use Rattle.join_parse.specs.Begins.{Symbol, AName, AVersion, ATwo, ANumber, AnArg, Args, MoreArgs}
use Rattle.join_parse.specs.Begins.{AZero, ACount, ASite, AKey, ASign, CloseGroup, CloseSquare}
use Rattle.join_parse.specs.Begins.{EndDef, Program, Sites, Body, Defs, MoreDefs, DefRest}
use Rattle.join_parse.specs.Begins.{MorePatterns, Names, MoreNames, AProc, MoreProcs, Alternative}
use Rattle.join_parse.specs.Begins.{observed, first_site, last_site, next_site, body, void}
use Rattle.join_parse.specs.Begins.{first_definition, last_definition, next_definition, rule, place}
use Rattle.join_parse.specs.Begins.{last_pattern, next_pattern, no_name, first_name, last_name}
use Rattle.join_parse.specs.Begins.{next_name, word_arg, number_arg, no_arg, first_arg, last_arg}
use Rattle.join_parse.specs.Begins.{next_arg, add, same, zero, message, go, fail, halt, group}
use Rattle.join_parse.specs.Begins.{def_in, last_process, next_process, end_def, StandsFor}
use Rattle.join_parse.specs.Begins.{name_stands, version_stands, two_stands, number_stands}
use Rattle.join_parse.specs.Begins.{zero_stands, count_stands, site_stands, key_stands, sign_stands}
use Rattle.join_parse.specs.Begins.{group_stands, square_stands, Leads, ends, takes, opens}
use Rattle.join_parse.specs.inside.Automaton.{key_number, sign_number, is_key, is_sign, is_name}
use Rattle.join_parse.specs.inside.Automaton.{is_zero, is_count, is_number, Move, Push, Pass, No}
use Rattle.join_parse.specs.inside.Automaton.{step, moved}
use Rattle.join_parse.specs.inside.Automaton.{advance}

-- what a test on a kind says of its terminal
pub sign-is : (s : Sign) (k : Kind2) (at : ℕ) → is_sign s k ≡ true → terminal_of k at ≡ a_sign s
sign-is s (kind.Ident t) at e = cc
sign-is s (kind.Number n) at e = cc
sign-is s (kind.Key j) at e = cc
sign-is s (kind.Sign t) at e = ap a_sign (by-number t s e)
  where
    by-number : (t s : Sign) → eqb (sign_number t) (sign_number s) ≡ true → t ≡ s
    by-number sign.Arrow sign.Arrow e = refl
    by-number sign.Colon sign.Colon e = refl
    by-number sign.Bar sign.Bar e = refl
    by-number sign.ParenLeft sign.ParenLeft e = refl
    by-number sign.ParenRight sign.ParenRight e = refl
    by-number sign.SquareLeft sign.SquareLeft e = refl
    by-number sign.SquareRight sign.SquareRight e = refl
    by-number sign.Comma sign.Comma e = refl
    by-number sign.Semicolon sign.Semicolon e = refl
    by-number sign.Slash sign.Slash e = refl
    by-number t s e = cc

pub key-is : (j : Key) (k : Kind2) (at : ℕ) → is_key j k ≡ true
    → terminal_of k at ≡ key_terminal j at
key-is j (kind.Ident t) at e = cc
key-is j (kind.Number n) at e = cc
key-is j (kind.Sign s) at e = cc
key-is j (kind.Key t) at e = ap (λ x. key_terminal x at) (by-number t j e)
  where
    by-number : (t j : Key) → eqb (key_number t) (key_number j) ≡ true → t ≡ j
    by-number key.Observe key.Observe e = refl
    by-number key.Site key.Site e = refl
    by-number key.Def key.Def e = refl
    by-number key.Inside key.Inside e = refl
    by-number key.And key.And e = refl
    by-number key.Go key.Go e = refl
    by-number key.Fail key.Fail e = refl
    by-number key.Halt key.Halt e = refl
    by-number key.Void key.Void e = refl
    by-number key.Add key.Add e = refl
    by-number key.Same key.Same e = refl
    by-number t j e = cc

name-is : (k : Kind2) (at : ℕ) → is_name k ≡ true → StandsFor AName (terminal_of k at)
name-is (kind.Ident t) at e = name_stands t at
name-is (kind.Number n) at e = cc
name-is (kind.Key j) at e = cc
name-is (kind.Sign t) at e = cc

version-is : (k : Kind2) (at : ℕ) → is_version_word k ≡ true → StandsFor AVersion (terminal_of k at)
version-is (kind.Ident t) at e =
    let same : t ≡ version_word = (bytes_eq-Decides t version_word).0 e in
    rw same (version_stands at)
version-is (kind.Number n) at e = cc
version-is (kind.Key j) at e = cc
version-is (kind.Sign t) at e = cc

two-is : (k : Kind2) (at : ℕ) → is_two k ≡ true → StandsFor ATwo (terminal_of k at)
two-is (kind.Ident t) at e = cc
two-is (kind.Number n) at e = let z : n ≡ 2 = grind (arith, nat_tests) in rw z (two_stands at)
two-is (kind.Key j) at e = cc
two-is (kind.Sign t) at e = cc

number-is : (k : Kind2) (at : ℕ) → is_number k ≡ true → StandsFor ANumber (terminal_of k at)
number-is (kind.Ident t) at e = cc
number-is (kind.Number n) at e = number_stands n at
number-is (kind.Key j) at e = cc
number-is (kind.Sign t) at e = cc

zero-is : (k : Kind2) (at : ℕ) → is_zero k ≡ true → StandsFor AZero (terminal_of k at)
zero-is (kind.Ident t) at e = cc
zero-is (kind.Number n) at e = let z : n ≡ 0 = grind (arith, nat_tests) in rw z (zero_stands at)
zero-is (kind.Key j) at e = cc
zero-is (kind.Sign t) at e = cc

count-is : (k : Kind2) (at : ℕ) → is_count k ≡ true → StandsFor ACount (terminal_of k at)
count-is (kind.Ident t) at e = cc
count-is (kind.Number n) at e = count_stands n at (grind (arith, nat_tests))
count-is (kind.Key j) at e = cc
count-is (kind.Sign t) at e = cc

-- one alternative of a step
pick : (P : List Symbol → Type 0) (b : Bool) (X : List Symbol) (rest : Move) (more : List Symbol)
    → (b ≡ true → P X) → (rest ≡ Push more → P more) → cond b (Push X) rest ≡ Push more → P more
pick P true X rest more hit miss e = let same : X ≡ more = cc in subst P same (hit refl)
pick P false X rest more hit miss e = miss e

both-true : (a b : Bool) → (a && b) ≡ true → (a ≡ true) × (b ≡ true)
both-true true b e = (refl, e)
both-true false b e = cc

below : (n : ℕ) → ltb n 255 ≡ true → n < 255
below n e = grind (arith, nat_tests)

module _ (second : Bool) (k : Kind2) (at : ℕ) (ts : List Terminal) (after stack : List Symbol) where
  -- where a symbol's alternative begins with one that stands for the token, and the rest of it is
  -- expected
  by-rule : (s first : Symbol) (more : List Symbol) → Alternative second s (first ∷ more)
      → StandsFor first (terminal_of k at) → Leads second (more ++ stack) ts after
      → Leads second (s ∷ stack) (terminal_of k at ∷ ts) after
  by-rule s first more is stands l = opens s (first ∷ more) stack (terminal_of k at ∷ ts) after is
      (takes first (terminal_of k at) (more ++ stack) ts after stands l)

  by-sign : (s : Symbol) (x : Sign) (more : List Symbol) → Alternative second s (ASign x ∷ more)
      → is_sign x k ≡ true → Leads second (more ++ stack) ts after
      → Leads second (s ∷ stack) (terminal_of k at ∷ ts) after
  by-sign s x more is t l = by-rule s (ASign x) more is (rw (sign-is x k at t) (sign_stands x)) l

  by-key : (s : Symbol) (x : Key) (more : List Symbol) → key_terminal x at ≡ a_key x
      → Alternative second s (AKey x ∷ more) → is_key x k ≡ true
      → Leads second (more ++ stack) ts after
      → Leads second (s ∷ stack) (terminal_of k at ∷ ts) after
  by-key s x more plain is t l =
      by-rule s (AKey x) more is (rw (key-is x k at t, plain) (key_stands x)) l

  by-site : (s : Symbol) (more : List Symbol) → Alternative second s (ASite ∷ more)
      → is_key key.Site k ≡ true → Leads second (more ++ stack) ts after
      → Leads second (s ∷ stack) (terminal_of k at ∷ ts) after
  by-site s more is t l = by-rule s ASite more is (rw (key-is key.Site k at t) (site_stands at)) l

  -- a symbol that stands for a token itself
  one-key : (j : Key) → key_terminal j at ≡ a_key j → (more : List Symbol)
      → cond (is_key j k) (Push []) No ≡ Push more → Leads second (more ++ stack) ts after
      → Leads second (AKey j ∷ stack) (terminal_of k at ∷ ts) after
  one-key j plain more = pick (λ more. Leads second (more ++ stack) ts after
      → Leads second (AKey j ∷ stack) (terminal_of k at ∷ ts) after) (is_key j k) [] No more
      (λ t l. takes (AKey j) (terminal_of k at) stack ts after
      (rw (key-is j k at t, plain) (key_stands j)) l) (λ e. cc)

  pub step-leads : (s : Symbol) (more : List Symbol) → step second s k ≡ Push more
      → Leads second (more ++ stack) ts after
      → Leads second (s ∷ stack) (terminal_of k at ∷ ts) after
  step-leads AName more = pick (λ more. Leads second (more ++ stack) ts after
      → Leads second (AName ∷ stack) (terminal_of k at ∷ ts) after) (is_name k) [] No more
      (λ t l. takes AName (terminal_of k at) stack ts after (name-is k at t) l) (λ e. cc)
  step-leads AVersion more = pick (λ more. Leads second (more ++ stack) ts after
      → Leads second (AVersion ∷ stack) (terminal_of k at ∷ ts) after) (is_version_word k) [] No
      more (λ t l. takes AVersion (terminal_of k at) stack ts after (version-is k at t) l) (λ e. cc)
  step-leads ATwo more = pick (λ more. Leads second (more ++ stack) ts after
      → Leads second (ATwo ∷ stack) (terminal_of k at ∷ ts) after) (is_two k) [] No more
      (λ t l. takes ATwo (terminal_of k at) stack ts after (two-is k at t) l) (λ e. cc)
  step-leads ANumber more = pick (λ more. Leads second (more ++ stack) ts after
      → Leads second (ANumber ∷ stack) (terminal_of k at ∷ ts) after) (is_number k) [] No more
      (λ t l. takes ANumber (terminal_of k at) stack ts after (number-is k at t) l) (λ e. cc)
  step-leads AZero more = pick (λ more. Leads second (more ++ stack) ts after
      → Leads second (AZero ∷ stack) (terminal_of k at ∷ ts) after) (is_zero k) [] No more
      (λ t l. takes AZero (terminal_of k at) stack ts after (zero-is k at t) l) (λ e. cc)
  step-leads ACount more = pick (λ more. Leads second (more ++ stack) ts after
      → Leads second (ACount ∷ stack) (terminal_of k at ∷ ts) after) (is_count k) [] No more
      (λ t l. takes ACount (terminal_of k at) stack ts after (count-is k at t) l) (λ e. cc)
  step-leads ASite more = pick (λ more. Leads second (more ++ stack) ts after
      → Leads second (ASite ∷ stack) (terminal_of k at ∷ ts) after) (is_key key.Site k) [] No more
      (λ t l. takes ASite (terminal_of k at) stack ts after
      (rw (key-is key.Site k at t) (site_stands at)) l) (λ e. cc)
  step-leads (AKey key.Observe) more = one-key key.Observe refl more
  step-leads (AKey key.Site) more = λ e. cc
  step-leads (AKey key.Def) more = one-key key.Def refl more
  step-leads (AKey key.Inside) more = one-key key.Inside refl more
  step-leads (AKey key.And) more = one-key key.And refl more
  step-leads (AKey key.Go) more = one-key key.Go refl more
  step-leads (AKey key.Fail) more = one-key key.Fail refl more
  step-leads (AKey key.Halt) more = one-key key.Halt refl more
  step-leads (AKey key.Void) more = one-key key.Void refl more
  step-leads (AKey key.Add) more = one-key key.Add refl more
  step-leads (AKey key.Same) more = one-key key.Same refl more
  step-leads (ASign x) more = pick (λ more. Leads second (more ++ stack) ts after
      → Leads second (ASign x ∷ stack) (terminal_of k at ∷ ts) after) (is_sign x k) [] No more
      (λ t l.
      takes (ASign x) (terminal_of k at) stack ts after (rw (sign-is x k at t) (sign_stands x)) l)
      (λ e. cc)
  step-leads CloseGroup more = pick (λ more. Leads second (more ++ stack) ts after
      → Leads second (CloseGroup ∷ stack) (terminal_of k at ∷ ts) after) (is_sign sign.ParenRight k)
      [] No more (λ t l. takes CloseGroup (terminal_of k at) stack ts after
      (rw (sign-is sign.ParenRight k at t) group_stands) l) (λ e. cc)
  step-leads CloseSquare more = pick (λ more. Leads second (more ++ stack) ts after
      → Leads second (CloseSquare ∷ stack) (terminal_of k at ∷ ts) after)
      (is_sign sign.SquareRight k) [] No more (λ t l. takes CloseSquare (terminal_of k at) stack ts
      after (rw (sign-is sign.SquareRight k at t) square_stands) l) (λ e. cc)
  step-leads EndDef more = λ e. cc
  step-leads Program more =
      let P : List Symbol → Type 0 =
      λ more. Leads second (more ++ stack) ts after
      → Leads second (Program ∷ stack) (terminal_of k at ∷ ts) after in
      pick P (is_key key.Observe k) _ _ more (by-key Program key.Observe _ refl observed)
      (pick P (is_key key.Site k) _ No more (by-site Program _ first_site) (λ e. cc))
  step-leads Sites more =
      let P : List Symbol → Type 0 =
      λ more. Leads second (more ++ stack) ts after
      → Leads second (Sites ∷ stack) (terminal_of k at ∷ ts) after in
      pick P (is_key key.Site k) _ Pass more (by-site Sites _ next_site) (λ e. cc)
  step-leads (Body within) more =
      let P : List Symbol → Type 0 =
      λ more. Leads second (more ++ stack) ts after
      → Leads second (Body within ∷ stack) (terminal_of k at ∷ ts) after in
      pick P (is_sign sign.SquareLeft k) _ No more
      (by-sign (Body within) sign.SquareLeft _ (body within)) (λ e. cc)
  step-leads (Defs within) more =
      let P : List Symbol → Type 0 =
      λ more. Leads second (more ++ stack) ts after
      → Leads second (Defs within ∷ stack) (terminal_of k at ∷ ts) after in
      pick P (is_key key.Void k) [] _ more (by-key (Defs within) key.Void [] refl (void within))
      (pick P (is_name k) _ No more
      (λ t. by-rule (Defs within) AName _ (first_definition within) (name-is k at t)) (λ e. cc))
  step-leads (MoreDefs within) more =
      let P : List Symbol → Type 0 =
      λ more. Leads second (more ++ stack) ts after
      → Leads second (MoreDefs within ∷ stack) (terminal_of k at ∷ ts) after in
      pick P (is_key key.And k) _ Pass more
      (by-key (MoreDefs within) key.And _ refl (next_definition within)) (λ e. cc)
  step-leads (DefRest true) more =
      let P : List Symbol → Type 0 =
      λ more. Leads second (more ++ stack) ts after
      → Leads second (DefRest true ∷ stack) (terminal_of k at ∷ ts) after in
      pick P (is_sign sign.ParenLeft k) _ _ more
      (by-sign (DefRest true) sign.ParenLeft _ (rule true)) (λ e. cc)
  step-leads (DefRest false) more =
      let P : List Symbol → Type 0 =
      λ more. Leads second (more ++ stack) ts after
      → Leads second (DefRest false ∷ stack) (terminal_of k at ∷ ts) after in
      pick P (is_sign sign.ParenLeft k) _ _ more
      (by-sign (DefRest false) sign.ParenLeft _ (rule false))
      (pick P (is_sign sign.SquareLeft k) _ No more
      (λ t l. opens (DefRest false) (Body true ∷ []) stack (terminal_of k at ∷ ts) after place
      (by-sign (Body true) sign.SquareLeft _ (body true) t l)) (λ e. cc))
  step-leads MorePatterns more =
      let P : List Symbol → Type 0 =
      λ more. Leads second (more ++ stack) ts after
      → Leads second (MorePatterns ∷ stack) (terminal_of k at ∷ ts) after in
      pick P (is_sign sign.Arrow k) [] _ more (by-sign MorePatterns sign.Arrow [] last_pattern)
      (pick P (is_sign sign.Bar k) _ No more (by-sign MorePatterns sign.Bar _ next_pattern)
      (λ e. cc))
  step-leads Names more =
      let P : List Symbol → Type 0 =
      λ more. Leads second (more ++ stack) ts after
      → Leads second (Names ∷ stack) (terminal_of k at ∷ ts) after in
      pick P (is_sign sign.ParenRight k) [] _ more (by-sign Names sign.ParenRight [] no_name)
      (pick P (is_name k) _ No more (λ t. by-rule Names AName _ first_name (name-is k at t))
      (λ e. cc))
  step-leads (MoreNames n) more =
      let P : List Symbol → Type 0 =
      λ more. Leads second (more ++ stack) ts after
      → Leads second (MoreNames n ∷ stack) (terminal_of k at ∷ ts) after in
      pick P (is_sign sign.ParenRight k) [] _ more
      (by-sign (MoreNames n) sign.ParenRight [] (last_name n))
      (pick P (is_sign sign.Comma k && ltb n 255) _ No more
      (λ t. let b = both-true (is_sign sign.Comma k) (ltb n 255) t in
      by-sign (MoreNames n) sign.Comma _ (next_name n (below n b.1)) b.0) (λ e. cc))
  step-leads AnArg more =
      let P : List Symbol → Type 0 =
      λ more. Leads second (more ++ stack) ts after
      → Leads second (AnArg ∷ stack) (terminal_of k at ∷ ts) after in
      pick P (is_name k) [] _ more (λ t. by-rule AnArg AName [] word_arg (name-is k at t))
      (pick P (second && is_number k) [] No more (λ t. let b = both-true second (is_number k) t in
      by-rule AnArg ANumber [] (number_arg b.0) (number-is k at b.1)) (λ e. cc))
  step-leads Args more =
      let P : List Symbol → Type 0 =
      λ more. Leads second (more ++ stack) ts after
      → Leads second (Args ∷ stack) (terminal_of k at ∷ ts) after in
      pick P (is_sign sign.ParenRight k) [] _ more (by-sign Args sign.ParenRight [] no_arg)
      (pick P (is_name k) _ _ more
      (λ t l. opens Args (AnArg ∷ MoreArgs 1 ∷ []) stack (terminal_of k at ∷ ts) after first_arg
      (opens AnArg (AName ∷ []) (MoreArgs 1 ∷ stack) (terminal_of k at ∷ ts) after word_arg
      (takes AName (terminal_of k at) (MoreArgs 1 ∷ stack) ts after (name-is k at t) l)))
      (pick P (second && is_number k) _ No more
      (λ t l. let b = both-true second (is_number k) t in opens Args (AnArg ∷ MoreArgs 1 ∷ []) stack
      (terminal_of k at ∷ ts) after first_arg (opens AnArg (ANumber ∷ []) (MoreArgs 1 ∷ stack)
      (terminal_of k at ∷ ts) after (number_arg b.0)
      (takes ANumber (terminal_of k at) (MoreArgs 1 ∷ stack) ts after (number-is k at b.1) l)))
      (λ e. cc)))
  step-leads (MoreArgs n) more =
      let P : List Symbol → Type 0 =
      λ more. Leads second (more ++ stack) ts after
      → Leads second (MoreArgs n ∷ stack) (terminal_of k at ∷ ts) after in
      pick P (is_sign sign.ParenRight k) [] _ more
      (by-sign (MoreArgs n) sign.ParenRight [] (last_arg n))
      (pick P (is_sign sign.Comma k && ltb n 255) _ No more
      (λ t. let b = both-true (is_sign sign.Comma k) (ltb n 255) t in
      by-sign (MoreArgs n) sign.Comma _ (next_arg n (below n b.1)) b.0) (λ e. cc))
  step-leads AProc more =
      let P : List Symbol → Type 0 =
      λ more. Leads second (more ++ stack) ts after
      → Leads second (AProc ∷ stack) (terminal_of k at ∷ ts) after in
      pick P (is_zero k) _ _ more (λ t. by-rule AProc AZero _ zero (zero-is k at t))
      (pick P (is_name k) _ _ more (λ t. by-rule AProc AName _ message (name-is k at t))
      (pick P (is_sign sign.ParenLeft k) _ _ more (by-sign AProc sign.ParenLeft _ group)
      (pick P (is_key key.Halt k) _ _ more (by-key AProc key.Halt _ refl halt)
      (pick P (is_key key.Go k) _ _ more (by-key AProc key.Go _ refl go)
      (pick P (is_key key.Fail k) _ _ more (by-key AProc key.Fail _ refl fail)
      (pick P (second && is_key key.Add k) _ _ more
      (λ t. let b = both-true second (is_key key.Add k) t in
      by-key AProc key.Add _ refl (add b.0) b.1)
      (pick P (second && is_key key.Same k) _ _ more
      (λ t. let b = both-true second (is_key key.Same k) t in
      by-key AProc key.Same _ refl (same b.0) b.1)
      (pick P (is_key key.Def k) _ No more (by-key AProc key.Def _ refl def_in) (λ e. cc)))))))))
  step-leads MoreProcs more =
      let P : List Symbol → Type 0 =
      λ more. Leads second (more ++ stack) ts after
      → Leads second (MoreProcs ∷ stack) (terminal_of k at ∷ ts) after in
      pick P (is_sign sign.Bar k) _ Pass more (by-sign MoreProcs sign.Bar _ next_process) (λ e. cc)

-- A test answers what no step passes over.
not-pass : (b : Bool) (X : List Symbol) (rest : Move) → (rest ≡ Pass → ⊥)
    → cond b (Push X) rest ≡ Pass → ⊥
not-pass true X rest other e = cc
not-pass false X rest other e = other e

no-pass : No ≡ Pass → ⊥
no-pass e = cc

-- what is passed over may be nothing
pass-rule : (second : Bool) (s : Symbol) (k : Kind2) → step second s k ≡ Pass
    → Alternative second s []
pass-rule second AName k e = absurd (not-pass (is_name k) _ No no-pass e)
pass-rule second AVersion k e = absurd (not-pass (is_version_word k) _ No no-pass e)
pass-rule second ATwo k e = absurd (not-pass (is_two k) _ No no-pass e)
pass-rule second ANumber k e = absurd (not-pass (is_number k) _ No no-pass e)
pass-rule second AnArg k e =
    absurd (not-pass (is_name k) _ _ (not-pass (second && is_number k) _ No no-pass) e)
pass-rule second Args k e = absurd (not-pass (is_sign sign.ParenRight k) _ _
    (not-pass (is_name k) _ _ (not-pass (second && is_number k) _ No no-pass)) e)
pass-rule second (MoreArgs n) k e = absurd (not-pass (is_sign sign.ParenRight k) _ _
    (not-pass (is_sign sign.Comma k && ltb n 255) _ No no-pass) e)
pass-rule second AZero k e = absurd (not-pass (is_zero k) _ No no-pass e)
pass-rule second ACount k e = absurd (not-pass (is_count k) _ No no-pass e)
pass-rule second ASite k e = absurd (not-pass (is_key key.Site k) _ No no-pass e)
pass-rule second (AKey key.Observe) k e = absurd (not-pass (is_key key.Observe k) [] No no-pass e)
pass-rule second (AKey key.Site) k e = absurd (no-pass e)
pass-rule second (AKey key.Def) k e = absurd (not-pass (is_key key.Def k) [] No no-pass e)
pass-rule second (AKey key.Inside) k e = absurd (not-pass (is_key key.Inside k) [] No no-pass e)
pass-rule second (AKey key.And) k e = absurd (not-pass (is_key key.And k) [] No no-pass e)
pass-rule second (AKey key.Go) k e = absurd (not-pass (is_key key.Go k) [] No no-pass e)
pass-rule second (AKey key.Fail) k e = absurd (not-pass (is_key key.Fail k) [] No no-pass e)
pass-rule second (AKey key.Halt) k e = absurd (not-pass (is_key key.Halt k) [] No no-pass e)
pass-rule second (AKey key.Void) k e = absurd (not-pass (is_key key.Void k) [] No no-pass e)
pass-rule second (AKey key.Add) k e = absurd (not-pass (is_key key.Add k) [] No no-pass e)
pass-rule second (AKey key.Same) k e = absurd (not-pass (is_key key.Same k) [] No no-pass e)
pass-rule second (ASign s) k e = absurd (not-pass (is_sign s k) _ No no-pass e)
pass-rule second CloseGroup k e = absurd (not-pass (is_sign sign.ParenRight k) _ No no-pass e)
pass-rule second CloseSquare k e = absurd (not-pass (is_sign sign.SquareRight k) _ No no-pass e)
pass-rule second EndDef k e = end_def
pass-rule second Program k e =
    absurd (not-pass (is_key key.Observe k) _ _ (not-pass (is_key key.Site k) _ No no-pass) e)
pass-rule second Sites k e = last_site
pass-rule second (Body within) k e = absurd (not-pass (is_sign sign.SquareLeft k) _ No no-pass e)
pass-rule second (Defs within) k e =
    absurd (not-pass (is_key key.Void k) _ _ (not-pass (is_name k) _ No no-pass) e)
pass-rule second (MoreDefs within) k e = last_definition within
pass-rule second (DefRest within) k e = absurd (not-pass (is_sign sign.ParenLeft k) _ _
    (not-pass (not within && is_sign sign.SquareLeft k) _ No no-pass) e)
pass-rule second MorePatterns k e =
    absurd (not-pass (is_sign sign.Arrow k) _ _ (not-pass (is_sign sign.Bar k) _ No no-pass) e)
pass-rule second Names k e =
    absurd (not-pass (is_sign sign.ParenRight k) _ _ (not-pass (is_name k) _ No no-pass) e)
pass-rule second (MoreNames n) k e = absurd (not-pass (is_sign sign.ParenRight k) _ _
    (not-pass (is_sign sign.Comma k && ltb n 255) _ No no-pass) e)
pass-rule second AProc k e =
    absurd (not-pass (is_zero k) _ _ (not-pass (is_name k) _ _ (not-pass (is_sign sign.ParenLeft k)
    _ _ (not-pass (is_key key.Halt k) _ _ (not-pass (is_key key.Go k) _ _
    (not-pass (is_key key.Fail k) _ _ (not-pass (second && is_key key.Add k) _ _
    (not-pass (second && is_key key.Same k) _ _ (not-pass (is_key key.Def k) _ No no-pass)))))))) e)
pass-rule second MoreProcs k e = last_process

-- A token that is taken leads on by the grammar's rules.
pub advance-leads :
    (second : Bool) (stack mid after : List Symbol) (k : Kind2) (at : ℕ) (ts : List Terminal)
    → advance second stack k ≡ Some mid → Leads second mid ts after
    → Leads second stack (terminal_of k at ∷ ts) after
advance-leads second [] mid after k at ts e l = cc
advance-leads second (s ∷ stack) mid after k at ts e l =
    by (λ q. advance-leads second stack mid after k at ts q l) (step second s k) refl e
  where
    by : (advance second stack k ≡ Some mid → Leads second stack (terminal_of k at ∷ ts) after)
        → (m : Move) → step second s k ≡ m → moved m stack (advance second stack k) ≡ Some mid
        → Leads second (s ∷ stack) (terminal_of k at ∷ ts) after
    by below (Push more) q e =
        let same : mid ≡ more ++ stack = cc in
        step-leads second k at ts after stack s more q (rw same at l)
    by below Pass q e =
        opens s [] stack (terminal_of k at ∷ ts) after (pass-rule second s k q) (below e)
    by below No q e = cc

-- Tokens that are taken one after the other lead from what is expected to what is expected then.
abbrev pub Reach : Bool → List Symbol → List Token → List Symbol → Type 0
Reach second stack [] after = stack ≡ after
Reach second stack (t ∷ ts) after =
    (mid : List Symbol) × (advance second stack t.kind ≡ Some mid) × Reach second mid ts after

pub reach-more :
    (second : Bool) (stack : List Symbol) (ts : List Token) (mid after : List Symbol) (t : Token)
    → Reach second stack ts mid → advance second mid t.kind ≡ Some after
    → Reach second stack (ts ++ t ∷ []) after
reach-more second stack [] mid after t r e = (after, rw r e, refl)
reach-more second stack (u ∷ ts) mid after t (m, a, r) e =
    (m, a, reach-more second m ts mid after t r e)

pub reach-leads : (second : Bool) (stack : List Symbol) (ts : List Token) (after : List Symbol)
    → Reach second stack ts after → Leads second stack (terminals ts) after
reach-leads second stack [] after r = subst (Leads second stack []) r (ends stack)
reach-leads second stack (t ∷ ts) after (mid, a, r) = advance-leads second stack mid after
    t.kind t.span.from (terminals ts) a (reach-leads second mid ts after r)
