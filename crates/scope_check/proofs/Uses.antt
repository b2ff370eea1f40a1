-- With the tables of the tree's scopes, the second walk notes the faults of the tree's uses.
use Rattle.std.proofs.Common.{◌≡◌, ℕ, ◌+◌, List, [], ◌∷◌, ◌++◌, Option, Some, None, length, refl}
use Rattle.std.proofs.Common.{sym, ap, ◌∙◌, append_assoc, append-nil}
use Rattle.join_parse.specs.declared.word.Word.{Word}
use Rattle.join_parse.specs.declared.word.Arg.{Arg}
use Rattle.join_parse.specs.declared.word.Arg.TheVariants as arg
use Rattle.scope_check.specs.declared.fault.Fault.{Fault}
use Rattle.join_parse.specs.Source.{Process, Zero, Msg, Go, Fail, Halt, Add, Same, Group, Def}
use Rattle.join_parse.specs.Source.{Processes, none, one_more, Definition, Rule, Place, Definitions}
use Rattle.join_parse.specs.Source.{no_definition, and_also}
use Rattle.scope_check.specs.Blocks.{params, parameters, block, Scope, Resolved, resolve, open_at}
use Rattle.scope_check.specs.Blocks.{scopes_in, scopes_in_def, scopes_in_defs}
use Rattle.scope_check.specs.Uses.{called, headed, sent, Use, used, sent_as, all_sent, uses}
use Rattle.scope_check.specs.Uses.{all_uses, definition_uses, level_uses}
use Rattle.scope_check.proofs.FaultList.{used_by, use_faults}
use Rattle.scope_check.specs.Numbers.{Binder}
use Rattle.scope_check.specs.inside.Twin.{Table, called_by, headed_by, sent_by, arg_faults, sent_in}
use Rattle.scope_check.specs.inside.Twin.{table_at}
use Rattle.scope_check.specs.inside.Twin.{uses_in, all_uses_in, definition_uses_in, level_uses_in}
use Rattle.scope_names.specs.Frames.{in_env}
use Rattle.scope_check.proofs.Tables.{EnvStandsFor, entered_resolved, env-resolves, Fits, AllFit}
use Rattle.scope_check.proofs.Tables.{DefinitionFits, LevelFits}

pub faults-append : (us vs : List Use) → use_faults (us ++ vs) ≡ use_faults us ++ use_faults vs
faults-append [] vs = refl
faults-append (u ∷ us) vs =
    let here = used_by u.manner u.word (resolve u.around u.word.text) in
    ap (λ l. here ++ l) (faults-append us vs)
    ∙ sym (append_assoc here (use_faults us) (use_faults vs))

module _ (number : Binder → ℕ) where
  called-same : (w : Word) (n : ℕ) (r : Option Resolved)
      → called_by w n (entered_resolved number w.text r) ≡ used_by (called n) w r
  called-same w n None = refl
  called-same w n (Some r) = refl

  headed-same : (w : Word) (r : Option Resolved)
      → headed_by w (entered_resolved number w.text r) ≡ used_by headed w r
  headed-same w None = refl
  headed-same w (Some r) = refl

  sent-same : (w : Word) (r : Option Resolved)
      → sent_by w (entered_resolved number w.text r) ≡ used_by sent w r
  sent-same w None = refl
  sent-same w (Some r) = refl

  module _ (tables : List Table) where
    called-is : (a : List Table) (env : List Scope) (w : Word) (n : ℕ) → EnvStandsFor number a env
        → called_by w n (in_env w.text a) ≡ used_by (called n) w (resolve env w.text)
    called-is a env w n h = ap (called_by w n) (env-resolves number a env w.text h)
        ∙ called-same w n (resolve env w.text)

    headed-is : (a : List Table) (env : List Scope) (w : Word) → EnvStandsFor number a env
        → headed_by w (in_env w.text a) ≡ used_by headed w (resolve env w.text)
    headed-is a env w h =
        ap (headed_by w) (env-resolves number a env w.text h) ∙ headed-same w (resolve env w.text)

    arg-is : (a : List Table) (env : List Scope) (v : Arg) → EnvStandsFor number a env
        → arg_faults a v ≡ use_faults (sent_as env v)
    arg-is a env (arg.Word w) h = ap (sent_by w) (env-resolves number a env w.text h)
        ∙ (sent-same w (resolve env w.text)
        ∙ sym (append-nil (used_by sent w (resolve env w.text))))
    arg-is a env (arg.Num value place) h = refl

    sent-is : (a : List Table) (env : List Scope) (vs : List Arg) → EnvStandsFor number a env
        → sent_in a vs ≡ use_faults (all_sent env vs)
    sent-is a env [] h = refl
    sent-is a env (v ∷ vs) h = (λ i. arg-is a env v h i ++ sent-is a env vs h i)
        ∙ sym (faults-append (sent_as env v) (all_sent env vs))

    -- two arguments, and what is used behind them
    operands-are : (a : List Table) (env : List Scope) (l r : Arg) (us : List Use) (fs : List Fault)
        → EnvStandsFor number a env → fs ≡ use_faults us
        → arg_faults a l ++ (arg_faults a r ++ fs)
        ≡ use_faults (sent_as env l ++ (sent_as env r ++ us))
    operands-are a env l r us fs h e =
        (λ i. arg-is a env l h i ++ (arg-is a env r h i ++ e i))
        ∙ ap (λ x. use_faults (sent_as env l) ++ x) (sym (faults-append (sent_as env r) us))
        ∙ sym (faults-append (sent_as env l) (sent_as env r ++ us))

    last-is : (a : List Table) (env : List Scope) (w : Word) (n : ℕ) → EnvStandsFor number a env
        → called_by w n (in_env w.text a) ≡ used_by (called n) w (resolve env w.text) ++ []
    last-is a env w n h =
        called-is a env w n h ∙ sym (append-nil (used_by (called n) w (resolve env w.text)))

    mutual
      pub uses-are : (p : Process) (a : List Table) (env : List Scope) (k : ℕ)
          → EnvStandsFor number a env → Fits number tables k p
          → uses_in tables a k p ≡ use_faults (uses env k p)
      uses-are Zero a env k h f = refl
      uses-are (Msg on args) a env k h f =
          λ i. called-is a env on (length args) h i ++ sent-is a env args h i
      uses-are (Go b c) a env k h f = λ i. headed-is a env b h i
          ++ (called-is a env c 0 h ∙ sym (append-nil (used_by (called 0) c (resolve env c.text))))
          i
      uses-are (Fail b c) a env k h f = λ i. headed-is a env b h i
          ++ (called-is a env c 0 h ∙ sym (append-nil (used_by (called 0) c (resolve env c.text))))
          i
      uses-are Halt a env k h f = refl
      uses-are (Add l r c) a env k h f = operands-are a env l r (used (called 1) c env ∷ [])
          (called_by c 1 (in_env c.text a)) h (last-is a env c 1 h)
      uses-are (Same l r c d) a env k h f =
          operands-are a env l r (used (called 0) c env ∷ used (called 0) d env ∷ [])
          (called_by c 0 (in_env c.text a) ++ called_by d 0 (in_env d.text a)) h
          (λ i. called-is a env c 0 h i ++ last-is a env d 0 h i)
      uses-are (Group ps) a env k h f = all-uses-are ps a env k h f
      uses-are (Def ds ps) a env k h f =
          let own = table_at tables k in let more = open_at k (block ds) env in
          (λ i. level-uses-are ds (own ∷ a) more (k + 1) (f.0, h) f.2 i
          ++ all-uses-are ps (own ∷ a) more (k + 1 + scopes_in_defs ds) (f.0, h) f.3 i)
          ∙ sym (faults-append (level_uses more (k + 1) ds)
          (all_uses more (k + 1 + scopes_in_defs ds) ps))

      pub all-uses-are : (ps : Processes) (a : List Table) (env : List Scope) (k : ℕ)
          → EnvStandsFor number a env → AllFit number tables k ps
          → all_uses_in tables a k ps ≡ use_faults (all_uses env k ps)
      all-uses-are none a env k h f = refl
      all-uses-are (one_more p ps) a env k h f =
          (λ i. uses-are p a env k h f.0 i ++ all-uses-are ps a env (k + scopes_in p) h f.1 i)
          ∙ sym (faults-append (uses env k p) (all_uses env (k + scopes_in p) ps))

      pub one-uses-are : (d : Definition) (a : List Table) (env : List Scope) (k : ℕ)
          → EnvStandsFor number a env → DefinitionFits number tables k d
          → definition_uses_in tables a k d ≡ use_faults (definition_uses env k d)
      one-uses-are (Rule pats body) a env k h f = all-uses-are body (table_at tables k ∷ a)
          (open_at k (parameters (params pats)) env) (k + 1) (f.0, h) f.1
      one-uses-are (Place o n ds body) a env k h f = (λ i. level-uses-are ds a env k h f.0 i
          ++ all-uses-are body a env (k + scopes_in_defs ds) h f.1 i)
          ∙ sym (faults-append (level_uses env k ds) (all_uses env (k + scopes_in_defs ds) body))

      pub level-uses-are : (ds : Definitions) (a : List Table) (env : List Scope) (k : ℕ)
          → EnvStandsFor number a env → LevelFits number tables k ds
          → level_uses_in tables a k ds ≡ use_faults (level_uses env k ds)
      level-uses-are no_definition a env k h f = refl
      level-uses-are (and_also d ds) a env k h f = (λ i.
          one-uses-are d a env k h f.0 i ++ level-uses-are ds a env (k + scopes_in_def d) h f.1 i)
          ∙ sym (faults-append (definition_uses env k d) (level_uses env (k + scopes_in_def d) ds))
