-- A tree binds in its own scopes alone.
use Rattle.std.proofs.Common.{◌≡◌, ℕ, ◌+◌, ◌<◌, ◌≤◌, ◌⊎◌, inl, inr, Bool, true, false, eqb, ◌||◌}
use Rattle.std.proofs.Common.{◌&&◌, List, [], ◌∷◌, ◌++◌, refl, ◌∙◌, arith}
use Rattle.std.proofs.lemmas.Bool.Decides.{nat_tests}
use Rattle.std.specs.Str.{bytes_eq}
use Rattle.std.specs.List.{list_any}
use Rattle.join_parse.specs.declared.word.Word.{Word}
use Rattle.join_parse.specs.declared.word.PatTree.{PatTree}
use Rattle.join_parse.specs.Source.{Process, Zero, Msg, Go, Fail, Halt, Add, Same, Group, Def}
use Rattle.join_parse.specs.Source.{Processes, none, one_more, Definition, Rule, Place, Definitions}
use Rattle.join_parse.specs.Source.{no_definition, and_also}
use Rattle.scope_check.specs.Blocks.{scopes_in, scopes_in_all, scopes_in_def, scopes_in_defs}
use Rattle.scope_check.specs.Numbers.{Binder, binder, is_same, in_params, in_patterns, in_process}
use Rattle.scope_check.specs.Numbers.{in_processes, in_definition, in_definitions}
use Rattle.scope_check.proofs.Lists.{any-append}
use Rattle.scope_check.proofs.Steps.{key}

-- none of these binds in scope number j
abbrev pub Outside : ℕ → List Binder → Type 0
Outside j bs = (text : List ℕ) → list_any (is_same (key j text)) bs ≡ false

abbrev pub Off : ℕ → ℕ → ℕ → Type 0
Off j k n = (j < k) ⊎ (k + n ≤ j)

pub outside-append : (j : ℕ) (xs ys : List Binder) → Outside j xs → Outside j ys
    → Outside j (xs ++ ys)
outside-append j xs ys a b text =
    any-append (is_same (key j text)) xs ys ∙ (λ i. a text i || b text i)

pub outside-cons : (j k : ℕ) (w : Word) (xs : List Binder) → (j ≡ k → ⊥) → Outside j xs
    → Outside j (binder k w ∷ xs)
outside-cons j k w xs other a text =
    by (eqb j k) (bytes_eq text w.text) (grind (arith, nat_tests)) ∙ a text
  where
    by : (x y : Bool) → x ≡ false
        → ((x && y) || list_any (is_same (key j text)) xs) ≡ list_any (is_same (key j text)) xs
    by true y e = absurd cc
    by false y e = refl

off-left : (j k a b : ℕ) → Off j k (a + b) → Off j k a
off-left j k a b (inl h) = inl h
off-left j k a b (inr h) = inr (omega arith)

off-right : (j k a b : ℕ) → Off j k (a + b) → Off j (k + a) b
off-right j k a b (inl h) = inl (omega arith)
off-right j k a b (inr h) = inr (omega arith)

off-other : (j k n : ℕ) → Off j k (1 + n) → j ≡ k → ⊥
off-other j k n (inl h) e = absurd (omega arith)
off-other j k n (inr h) e = absurd (omega arith)

pub params-outside : (ws : List Word) (j k : ℕ) → (j ≡ k → ⊥) → Outside j (in_params k ws)
params-outside [] j k o = λ text. refl
params-outside (w ∷ ws) j k o = outside-cons j k w (in_params k ws) o (params-outside ws j k o)

pub patterns-outside : (ps : List PatTree) (j own k : ℕ) → (j ≡ own → ⊥) → (j ≡ k → ⊥)
    → Outside j (in_patterns own k ps)
patterns-outside [] j own k a b = λ text. refl
patterns-outside (p ∷ ps) j own k a b =
    outside-append j (binder own p.on ∷ in_params k p.params) (in_patterns own k ps)
    (outside-cons j own p.on (in_params k p.params) a (params-outside p.params j k b))
    (patterns-outside ps j own k a b)

mutual
  pub process-outside : (p : Process) (j k : ℕ) → Off j k (scopes_in p) → Outside j (in_process k p)
  process-outside Zero j k o = λ text. refl
  process-outside (Msg on args) j k o = λ text. refl
  process-outside (Go b c) j k o = λ text. refl
  process-outside (Fail b c) j k o = λ text. refl
  process-outside Halt j k o = λ text. refl
  process-outside (Add l r c) j k o = λ text. refl
  process-outside (Same l r c d) j k o = λ text. refl
  process-outside (Group ps) j k o = processes-outside ps j k o
  process-outside (Def ds ps) j k o =
      let n = scopes_in_defs ds in let m = scopes_in_all ps in
      let a = off-left j k (1 + n) m o in
      outside-append j (in_definitions k (k + 1) ds) (in_processes (k + 1 + n) ps)
      (definitions-outside ds j k (k + 1) (off-other j k n a) (off-right j k 1 n a))
      (processes-outside ps j (k + 1 + n) (shift j k n m o))
    where
      shift : (j k n m : ℕ) → Off j k (1 + n + m) → Off j (k + 1 + n) m
      shift j k n m (inl h) = inl (omega arith)
      shift j k n m (inr h) = inr (omega arith)

  pub processes-outside : (ps : Processes) (j k : ℕ) → Off j k (scopes_in_all ps)
      → Outside j (in_processes k ps)
  processes-outside none j k o = λ text. refl
  processes-outside (one_more p ps) j k o =
      outside-append j (in_process k p) (in_processes (k + scopes_in p) ps)
      (process-outside p j k (off-left j k (scopes_in p) (scopes_in_all ps) o))
      (processes-outside ps j (k + scopes_in p) (off-right j k (scopes_in p) (scopes_in_all ps) o))

  pub definition-outside : (d : Definition) (j own k : ℕ) → (j ≡ own → ⊥)
      → Off j k (scopes_in_def d) → Outside j (in_definition own k d)
  definition-outside (Rule pats body) j own k a o =
      outside-append j (in_patterns own k pats) (in_processes (k + 1) body)
      (patterns-outside pats j own k a (off-other j k (scopes_in_all body) o))
      (processes-outside body j (k + 1) (off-right j k 1 (scopes_in_all body) o))
  definition-outside (Place p n ds body) j own k a o =
      outside-append j (binder own n ∷ in_definitions own k ds)
      (in_processes (k + scopes_in_defs ds) body) (outside-cons j own n (in_definitions own k ds) a
      (definitions-outside ds j own k a (off-left j k (scopes_in_defs ds) (scopes_in_all body) o)))
      (processes-outside body j (k + scopes_in_defs ds)
      (off-right j k (scopes_in_defs ds) (scopes_in_all body) o))

  pub definitions-outside : (ds : Definitions) (j own k : ℕ) → (j ≡ own → ⊥)
      → Off j k (scopes_in_defs ds) → Outside j (in_definitions own k ds)
  definitions-outside no_definition j own k a o = λ text. refl
  definitions-outside (and_also d ds) j own k a o =
      outside-append j (in_definition own k d) (in_definitions own (k + scopes_in_def d) ds)
      (definition-outside d j own k a (off-left j k (scopes_in_def d) (scopes_in_defs ds) o))
      (definitions-outside ds j own (k + scopes_in_def d) a
      (off-right j k (scopes_in_def d) (scopes_in_defs ds) o))
