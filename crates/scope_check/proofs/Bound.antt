-- Each binder is bound once, by the scope that its number tells.
use Rattle.std.proofs.Common.{◌≡◌, ℕ, zero, suc, ◌+◌, ◌<◌, ◌≤◌, ◌⊎◌, inl, inr, Bool, true, false}
use Rattle.std.proofs.Common.{cond, eqb, List, [], ◌∷◌, ◌++◌, refl, sym, ap, ◌∙◌, subst}
use Rattle.std.proofs.Common.{arith}
use Rattle.std.specs.List.{list_any}
use Rattle.std.proofs.lemmas.Bool.{eqb-true}
use Rattle.join_base.specs.declared.fault.Kind.TheVariants.{Scope4, Scope5}
use Rattle.join_parse.specs.declared.word.Word.{Word}
use Rattle.join_parse.specs.declared.word.PatTree.{PatTree}
use Rattle.join_parse.specs.Source as s
use Rattle.scope_names.specs.declared.scope.Sort.{Sort}
use Rattle.scope_names.specs.declared.scope.Sort.TheVariants.{Channel, Location, Observed}
use Rattle.scope_names.specs.declared.scope.Sort.TheVariants.{Parameter}
use Rattle.chem_model.specs.Process as t
use Rattle.chem_model.specs.Binders as chem
use Rattle.chem_model.specs.Binders.{is_among, times, once, bound_in, bound_in_all}
use Rattle.chem_model.specs.Binders.{bound_in_definition, bound_in_definitions}
use Rattle.scope_check.specs.Blocks.{Defining, params, parameters, block, Scope, open_at, scopes_in}
use Rattle.scope_check.specs.Blocks.{scopes_in_all, scopes_in_def, scopes_in_defs}
use Rattle.scope_check.specs.inside.FaultList.{clashes, repeats, pattern_faults, process_faults}
use Rattle.scope_check.specs.inside.FaultList.{processes_faults, definition_faults, level_faults}
use Rattle.scope_check.specs.Faults.{ons}
use Rattle.scope_check.specs.Numbers.{Binder, binder, is_same, keys, in_params, in_patterns}
use Rattle.scope_check.specs.Numbers.{in_process, in_processes, in_definition, in_definitions}
use Rattle.scope_check.specs.Numbers.{index_of}
use Rattle.scope_check.specs.Stands.{together, numbers, pats_of, process, members, definition}
use Rattle.scope_check.specs.Stands.{level}
use Rattle.scope_check.proofs.Lists.{none_left, none_right}
use Rattle.scope_check.proofs.Among.{among-cons, once-cases}
use Rattle.scope_check.proofs.Counted.{index-tells}
use Rattle.scope_check.proofs.Sorts.{AllIn, in_front, in_back, once-each, times-cons}
use Rattle.scope_check.proofs.TermBlock.{number_if, bound_at, level-block, params-numbers}
use Rattle.scope_check.proofs.Good.{params-in, all-in}

module _ (bs : List Binder) (seen : ℕ) where
  -- this number is that of a binder of one of the scopes from k on, of which there are n
  pub record Hit (b k n : ℕ) : Type 0 where
    pub which : Binder
    pub low : k ≤ which.scope
    pub high : which.scope < k + n
    pub there : list_any (is_same which) bs ≡ true
    pub is : index_of bs which ≡ b

  -- bound at most once, and only by these scopes
  abbrev pub Within : ℕ → (b k n : ℕ) → Type 0
  Within x b k n = (x ≤ 1) × (0 < x → Hit b k n)

  wider : (b k n j m : ℕ) → j ≤ k → k + n ≤ j + m → Hit b k n → Hit b j m
  wider b k n j m low high h = record {
    which = h.which;
    low = omega (arith, h.low);
    high = omega (arith, h.high);
    there = h.there;
    is = h.is;
  }

  one-binder : (b k n j m : ℕ) → Hit b k n → Hit b j m → k + n ≤ j → ⊥
  one-binder b k n j m g h apart =
      let same : g.which ≡ h.which = index-tells bs g.which h.which g.there (g.is ∙ sym h.is) in
      let e : g.which.scope ≡ h.which.scope = ap (λ (x : Binder). x.scope) same in
      absurd (omega (arith, e, g.high, h.low))

  zero-or : (x : ℕ) → (x ≡ 0) ⊎ (0 < x)
  zero-or zero = inl refl
  zero-or (suc x) = inr (omega arith)

  within-none : (b k n : ℕ) → Within 0 b k n
  within-none b k n = (omega arith, λ h. absurd (omega arith))

  -- one after the other
  pub within-both : (x y b k n m : ℕ) → Within x b k n → Within y b (k + n) m
      → Within (x + y) b k (n + m)
  within-both x y b k n m p q =
      elim (zero-or x) [
        | inl e ↦ (
          omega (arith, e, q.0),
          λ some. wider b (k + n) m k (n + m) (omega arith) (omega arith)
              (q.1 (omega (arith, e, some))),
        )
        | inr h ↦ elim (zero-or y) [
          | inl e ↦ (
            omega (arith, e, p.0),
            λ some. wider b k n k (n + m) (omega arith) (omega arith) (p.1 h),
          )
          | inr g ↦ absurd (one-binder b k n (k + n) m (p.1 h) (q.1 g) (omega arith))
        ]
      ]

  -- ---- a block

  among-hit : (k : ℕ) (ds : List Defining) (b : ℕ) → AllIn bs (keys k ds)
      → is_among (bound_at (index_of bs) k ds) b ≡ true → Hit b k 1
  among-hit k [] b a e = absurd cc
  among-hit k (d ∷ ds) b a e = by d.1 e (among-hit k ds b a.1)
    where
      here : index_of bs (binder k d.0) ≡ b → Hit b k 1
      here q = record {
        which = binder k d.0;
        low = omega arith;
        high = omega arith;
        there = a.0;
        is = q;
      }

      one : is_among (index_of bs (binder k d.0) ∷ bound_at (index_of bs) k ds) b ≡ true
          → (is_among (bound_at (index_of bs) k ds) b ≡ true → Hit b k 1) → Hit b k 1
      one q ih = elim (among-cons (index_of bs (binder k d.0)) (bound_at (index_of bs) k ds) b
          q) [ inl h ↦ here h | inr h ↦ ih h ]

      by : (x : Sort)
          → is_among
          (number_if (index_of bs) x (index_of bs (binder k d.0)) ++ bound_at (index_of bs) k ds) b
          ≡ true → (is_among (bound_at (index_of bs) k ds) b ≡ true → Hit b k 1) → Hit b k 1
      by (Channel m at) q ih = one q ih
      by Location q ih = one q ih
      by (Observed m i) q ih = ih q
      by Parameter q ih = one q ih

  pub block-within : (k : ℕ) (ds : List Defining) (b : ℕ) → AllIn bs (keys k ds)
      → Within (once (bound_at (index_of bs) k ds) b) b k 1
  block-within k ds b a =
      let o = once-cases (bound_at (index_of bs) k ds) b in
      (o.0, λ h. among-hit k ds b a (o.1 h))

  -- ---- parameters

  words-hit : (k : ℕ) (ws : List Word) (b : ℕ) → AllIn bs (in_params k ws)
      → 0 < times (numbers (index_of bs) k ws) b → Hit b k 1
  words-hit k [] b a h = absurd (omega arith)
  words-hit k (w ∷ ws) b a h = by (eqb (index_of bs (binder k w)) b) refl (words-hit k ws b a.1)
    where
      by : (v : Bool) → eqb (index_of bs (binder k w)) b ≡ v
          → (0 < times (numbers (index_of bs) k ws) b → Hit b k 1) → Hit b k 1
      by true e ih = record {
        which = binder k w;
        low = omega arith;
        high = omega arith;
        there = a.0;
        is = eqb-true (index_of bs (binder k w)) b e;
      }
      by false e ih =
          let split : times (index_of bs (binder k w) ∷ numbers (index_of bs) k ws) b
          ≡ cond false 1 0 + times (numbers (index_of bs) k ws) b =
          times-cons (index_of bs (binder k w)) (numbers (index_of bs) k ws) b
          ∙ ap (λ t. cond t 1 0 + times (numbers (index_of bs) k ws) b) e in
          ih (omega (arith, split, h))

  params-within : (own k : ℕ) (ps : List PatTree) (b : ℕ) → pattern_faults ps ≡ []
      → AllIn bs (in_patterns own k ps)
      → Within (times (chem.params_of (pats_of (index_of bs) own k ps)) b) b k 1
  params-within own k ps b none a =
      let inside = params-in bs seen own k ps a in
      subst (λ l. Within (times l b) b k 1) (sym (params-numbers (index_of bs) own k ps)) (
        (once-each bs Scope4 k [] (params ps) inside
            (none_right (repeats Scope5 [] (ons ps)) (repeats Scope4 [] (params ps)) none)).0 b,
        words-hit k (params ps) b inside,
      )

  together-bound : (ps : List t.Process) (b : ℕ)
      → bound_in (together ps) b ≡ bound_in_all (t.processes ps) b
  together-bound [] b = refl
  together-bound (p ∷ []) b = omega arith
  together-bound (p ∷ q ∷ ps) b = refl

  -- whatever may stand as an argument
  whole : (ps : s.Processes) (env : List Scope) (k b : ℕ)
      → Within (bound_in_all (t.processes (members (index_of bs) env k ps)) b) b k
      (scopes_in_all ps)
      → Within (bound_in (together (members (index_of bs) env k ps)) b) b k (scopes_in_all ps)
  whole ps env k b h = subst (λ x. Within x b k (scopes_in_all ps))
      (sym (together-bound (members (index_of bs) env k ps) b)) h

  -- ---- terms

  mutual
    process-within : (p : s.Process) (env : List Scope) (k b : ℕ) → process_faults p ≡ []
        → AllIn bs (in_process k p)
        → Within (bound_in (process (index_of bs) env k p) b) b k (scopes_in p)
    process-within s.Zero env k b d a = within-none b k 0
    process-within (s.Msg on args) env k b d a = within-none b k 0
    process-within (s.Go x y) env k b d a = within-none b k 0
    process-within (s.Fail x y) env k b d a = within-none b k 0
    process-within s.Halt env k b d a = within-none b k 0
    process-within (s.Add l r c) env k b d a = within-none b k 0
    process-within (s.Same l r c e) env k b d a = within-none b k 0
    process-within (s.Group ps) env k b d a = whole ps env k b (members-within ps env k b d a)
    process-within (s.Def ds ps) env k b d a =
        let inner = open_at k (block ds) env in
        let n = scopes_in_defs ds in
        let term = t.definitions (level (index_of bs) k inner (k + 1) ds) in
        let d1 = none_right (clashes [] (block ds)) (level_faults ds ++ processes_faults ps) d in
        let a0 = in_front bs (in_definitions k (k + 1) ds) (in_processes (k + 1 + n) ps) a in
        let a1 = in_back bs (in_definitions k (k + 1) ds) (in_processes (k + 1 + n) ps) a in
        let own : Within (once (chem.block term) b) b k 1 = subst (λ l. Within (once l b) b k 1)
        (sym (level-block (index_of bs) ds k (k + 1) 0 1 inner))
        (block-within k (block ds) b (all-in bs seen ds k (k + 1) 0 1 a0)) in
        let x = level-within ds k inner (k + 1) b
        (none_left (level_faults ds) (processes_faults ps) d1) a0 in
        let y = whole ps inner (k + 1 + n) b (members-within ps inner (k + 1 + n) b
        (none_right (level_faults ds) (processes_faults ps) d1) a1) in
        let two =
        within-both (once (chem.block term) b) (bound_in_definitions term b) b k 1 n own x in
        let e : k + 1 + n ≡ k + (1 + n) = omega arith in
        within-both (once (chem.block term) b + bound_in_definitions term b)
        (bound_in (together (members (index_of bs) inner (k + 1 + n) ps)) b) b k (1 + n)
        (scopes_in_all ps) two
        (subst (λ z. Within (bound_in (together (members (index_of bs) inner (k + 1 + n) ps)) b) b z
        (scopes_in_all ps)) e y)

    members-within : (ps : s.Processes) (env : List Scope) (k b : ℕ) → processes_faults ps ≡ []
        → AllIn bs (in_processes k ps)
        → Within (bound_in_all (t.processes (members (index_of bs) env k ps)) b) b k
        (scopes_in_all ps)
    members-within s.none env k b d a = within-none b k 0
    members-within (s.one_more p ps) env k b d a =
        within-both (bound_in (process (index_of bs) env k p) b)
        (bound_in_all (t.processes (members (index_of bs) env (k + scopes_in p) ps)) b) b k
        (scopes_in p) (scopes_in_all ps)
        (process-within p env k b (none_left (process_faults p) (processes_faults ps) d)
        (in_front bs (in_process k p) (in_processes (k + scopes_in p) ps) a))
        (members-within ps env (k + scopes_in p) b
        (none_right (process_faults p) (processes_faults ps) d)
        (in_back bs (in_process k p) (in_processes (k + scopes_in p) ps) a))

    definition-within : (d : s.Definition) (own : ℕ) (env : List Scope) (k b : ℕ)
        → definition_faults d ≡ [] → AllIn bs (in_definition own k d)
        → Within (bound_in_definition (definition (index_of bs) own env k d) b) b k
        (scopes_in_def d)
    definition-within (s.Rule pats body) own env k b d a =
        let inner = open_at k (parameters (params pats)) env in
        within-both (times (chem.params_of (pats_of (index_of bs) own k pats)) b)
        (bound_in (together (members (index_of bs) inner (k + 1) body)) b) b k 1
        (scopes_in_all body)
        (params-within own k pats b (none_left (pattern_faults pats) (processes_faults body) d)
        (in_front bs (in_patterns own k pats) (in_processes (k + 1) body) a))
        (whole body inner (k + 1) b (members-within body inner (k + 1) b
        (none_right (pattern_faults pats) (processes_faults body) d)
        (in_back bs (in_patterns own k pats) (in_processes (k + 1) body) a)))
    definition-within (s.Place o w ds body) own env k b d a =
        let n = scopes_in_defs ds in
        within-both (bound_in_definitions (t.definitions (level (index_of bs) own env k ds)) b)
        (bound_in (together (members (index_of bs) env (k + n) body)) b) b k n (scopes_in_all body)
        (level-within ds own env k b (none_left (level_faults ds) (processes_faults body) d)
        (in_front bs (in_definitions own k ds) (in_processes (k + n) body) a.1))
        (whole body env (k + n) b
        (members-within body env (k + n) b (none_right (level_faults ds) (processes_faults body) d)
        (in_back bs (in_definitions own k ds) (in_processes (k + n) body) a.1)))

    pub level-within : (ds : s.Definitions) (own : ℕ) (env : List Scope) (k b : ℕ)
        → level_faults ds ≡ [] → AllIn bs (in_definitions own k ds)
        → Within (bound_in_definitions (t.definitions (level (index_of bs) own env k ds)) b) b k
        (scopes_in_defs ds)
    level-within s.no_definition own env k b d a = within-none b k 0
    level-within (s.and_also x ds) own env k b d a =
        within-both (bound_in_definition (definition (index_of bs) own env k x) b)
        (bound_in_definitions (t.definitions (level (index_of bs) own env (k + scopes_in_def x) ds))
        b) b k (scopes_in_def x) (scopes_in_defs ds)
        (definition-within x own env k b (none_left (definition_faults x) (level_faults ds) d)
        (in_front bs (in_definition own k x) (in_definitions own (k + scopes_in_def x) ds) a))
        (level-within ds own env (k + scopes_in_def x) b
        (none_right (definition_faults x) (level_faults ds) d)
        (in_back bs (in_definition own k x) (in_definitions own (k + scopes_in_def x) ds) a))
