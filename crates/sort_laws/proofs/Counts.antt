-- A location and a parameter have one entry in the table of sorts, and a channel has none.
use Rattle.std.proofs.Common.{◌≡◌, ℕ, ◌+◌, ◌<◌, ◌≤◌, List, [], ◌∷◌, ◌++◌, Option, Some, None, Bool}
use Rattle.std.proofs.Common.{true, false, cond, refl, sym, ap, ◌∙◌, subst, arith, ◌==◌, ◌||◌, inl}
use Rattle.std.proofs.Common.{inr, eq-eqb, eqb-true}
use Rattle.chem_model.specs.declared.name.Name.{Name}
use Rattle.chem_model.specs.declared.name.Ref.{Ref}
use Rattle.chem_model.specs.declared.name.Ref.TheVariants.{Binder, Known}
use Rattle.chem_model.specs.declared.name.Pat.{Pat}
use Rattle.chem_model.specs.Process.{Process, Msg, Par, Def, Go, Fail, Halt, Processes, none}
use Rattle.chem_model.specs.Process.{one_more, Definition, Rule, Place, Definitions, no_definition}
use Rattle.chem_model.specs.Process.{and_also}
use Rattle.chem_model.specs.Binders.{binder_of, channels_of, params_of, block, places_of, place_of}
use Rattle.chem_model.specs.Binders.{at, patterns_of, is_among, times, once, bound_in, bound_in_all}
use Rattle.chem_model.specs.Binders.{bound_in_definition, bound_in_definitions}
use Rattle.chem_model.specs.Scope.{Position, IsBlock, IsTerm, AreTerms, IsDefinition}
use Rattle.chem_model.specs.Scope.{AreDefinitions}
use Rattle.chem_model.specs.Each.{Each, IsIn}
use Rattle.chem_laws.proofs.Lists.{cond_either, Each-left, Each-right}
use Rattle.chem_laws.proofs.Terms.{among-append, among_left, among_right, times-cons, times-append}
use Rattle.chem_laws.proofs.OpeningLists.{among_either}
use Rattle.chem_laws.proofs.NamingLevels.{not_among}
use Rattle.sort_laws.specs.declared.sorts.Entry.{Entry}
use Rattle.sort_laws.specs.declared.sorts.SortArg.{SortArg}
use Rattle.sort_laws.specs.Table.{entries_for, place_entry, asked_by, pattern_sort, pattern_entries}
use Rattle.sort_laws.specs.Table.{entries, entries_of_all, entries_of_definition}
use Rattle.sort_laws.specs.Table.{entries_of_definitions, sort_in}

-- ---- how often a binder has an entry

abbrev pub keyed : List Entry → ℕ → ℕ
keyed [] b = 0
keyed (e ∷ es) b = cond (e.binder == b) 1 0 + keyed es b

pub keyed-append : (xs ys : List Entry) (b : ℕ) → keyed (xs ++ ys) b ≡ keyed xs b + keyed ys b
keyed-append [] ys b = omega arith
keyed-append (e ∷ xs) ys b = omega (arith, keyed-append xs ys b)

keyed_for : (ss : List SortArg) (bs : List ℕ) (b : ℕ) → keyed (entries_for ss bs) b ≡ times bs b
keyed_for ss [] b = refl
keyed_for [] (c ∷ bs) b = omega (arith, keyed_for [] bs b, times-cons c bs b)
keyed_for (s ∷ ss) (c ∷ bs) b = omega (arith, keyed_for ss bs b, times-cons c bs b)

keyed_place : (r : Ref) (b : ℕ) → keyed (place_entry r) b ≡ times (binder_of r) b
keyed_place (Binder c) b = omega (arith, times-cons c [] b)
keyed_place (Known n) b = refl

keyed_in : (es : List Entry) (e : Entry) → IsIn e es → 0 < keyed es e.binder
keyed_in [] e i = absurd i
keyed_in (x ∷ es) e (inl c) =
    let here : ◌≡◌ {A = ℕ} (cond (x.binder == e.binder) 1 0) 1 =
    ap (λ u. cond u 1 0) (eq-eqb x.binder e.binder (ap (λ (y : Entry). y.binder) (sym c))) in
    omega arith
keyed_in (x ∷ es) e (inr i) = omega (arith, keyed_in es e i)

module _ (channel : ℕ → Option SortArg) where
  pub found_entry : (es : List Entry) (e : Entry) → IsIn e es → keyed es e.binder ≤ 1
      → sort_in channel es e.binder ≡ e.sort
  found_entry [] e i few = absurd i
  found_entry (x ∷ es) e (inl c) few = ap (λ u. cond u x.sort (sort_in channel es e.binder))
      (eq-eqb x.binder e.binder (ap (λ (y : Entry). y.binder) (sym c)))
      ∙ ap (λ (y : Entry). y.sort) (sym c)
  found_entry (x ∷ es) e (inr i) few = go (x.binder == e.binder) few (λ h. found_entry es e i h)
    where
      go : (u : Bool) → cond u 1 0 + keyed es e.binder ≤ 1
          → (keyed es e.binder ≤ 1 → sort_in channel es e.binder ≡ e.sort)
          → cond u x.sort (sort_in channel es e.binder) ≡ e.sort
      go true most ih = absurd (omega (arith, keyed_in es e i))
      go false most ih = ih (omega arith)

  pub no_entry : (es : List Entry) (b : ℕ) → keyed es b ≡ 0 → sort_in channel es b ≡ channel b
  no_entry [] b e = refl
  no_entry (x ∷ es) b e = go (x.binder == b) e (λ h. no_entry es b h)
    where
      go : (u : Bool) → cond u 1 0 + keyed es b ≡ 0
          → (keyed es b ≡ 0 → sort_in channel es b ≡ channel b)
          → cond u x.sort (sort_in channel es b) ≡ channel b
      go true f ih = absurd (omega arith)
      go false f ih = ih (omega arith)

-- ---- the channels of blocks

-- of a block
abbrev pub own_channels : Definitions → List ℕ
own_channels no_definition = []
own_channels (and_also (Rule ps p) ds) = channels_of ps ++ own_channels ds
own_channels (and_also (Place a es p) ds) = own_channels es ++ own_channels ds

-- of the blocks within a term
abbrev mutual
  pub inner : Process → List ℕ
  inner (Msg x vs) = []
  inner (Par ps) = inner_all ps
  inner (Def ds p) = own_channels ds ++ (inner_definitions ds ++ inner p)
  inner (Go b k) = []
  inner (Fail a k) = []
  inner Halt = []

  pub inner_all : Processes → List ℕ
  inner_all none = []
  inner_all (one_more p ps) = inner p ++ inner_all ps

  pub inner_definition : Definition → List ℕ
  inner_definition (Rule ps p) = inner p
  inner_definition (Place a ds p) = inner_definitions ds ++ inner p

  pub inner_definitions : Definitions → List ℕ
  inner_definitions no_definition = []
  inner_definitions (and_also d ds) = inner_definition d ++ inner_definitions ds

once_append : (bs cs : List ℕ) (b : ℕ) → once (bs ++ cs) b ≤ once bs b + once cs b
once_append bs cs b = subst (λ u. cond u 1 0 ≤ once bs b + once cs b) (sym (among-append bs cs b))
    (cond_either (is_among bs b) (is_among cs b))

-- ---- in a block a channel is no location

channel_named : (l : Option Ref) (b : ℕ) (places : List ℕ) (ps : List Pat)
    → Each (λ (x : Option Ref × Pat). (c : ℕ) → x.1.on ≡ Binder c → is_among places c ≡ false)
    (at l ps) → is_among (channels_of ps) b ≡ true → is_among places b ≡ false
channel_named l b places [] h e = cc
channel_named l b places (p ∷ ps) h e = elim (among_either (binder_of p.on) (channels_of ps) b
    e) [ inl u ↦ here p.on refl u | inr u ↦ channel_named l b places ps h.1 u ]
  where
    here : (r : Ref) → p.on ≡ r → is_among (binder_of r) b ≡ true → is_among places b ≡ false
    here (Binder c) q u = go (c == b) refl u
      where
        go : (v : Bool) → c == b ≡ v → v || false ≡ true → is_among places b ≡ false
        go true w f = h.0 b (q ∙ ap Binder (eqb-true c b w))
        go false w f = cc
    here (Known n) q u = cc

abbrev Apart : List ℕ → (Option Ref × Pat) → Type 0
Apart places x = (c : ℕ) → x.1.on ≡ Binder c → is_among places c ≡ false

channel_apart : (l : Option Ref) (b : ℕ) (places : List ℕ) (ds : Definitions)
    → Each (Apart places) (patterns_of l ds) → is_among (own_channels ds) b ≡ true
    → is_among places b ≡ false
channel_apart l b places no_definition h e = cc
channel_apart l b places (and_also (Rule ps p) ds) h e =
    elim (among_either (channels_of ps) (own_channels ds) b e) [
      | inl u ↦
          channel_named l b places ps (Each-left (Apart places) (at l ps) (patterns_of l ds) h) u
      | inr u ↦
          channel_apart l b places ds (Each-right (Apart places) (at l ps) (patterns_of l ds) h) u
    ]
channel_apart l b places (and_also (Place a es p) ds) h e =
    elim (among_either (own_channels es) (own_channels ds) b e) [
      | inl u ↦ channel_apart (Some a) b places es
          (Each-left (Apart places) (patterns_of (Some a) es) (patterns_of l ds) h) u
      | inr u ↦ channel_apart l b places ds
          (Each-right (Apart places) (patterns_of (Some a) es) (patterns_of l ds) h) u
    ]

-- ---- what a block defines

places_within : (ds : Definitions) (b : ℕ) → is_among (places_of ds) b ≡ true
    → is_among (block ds) b ≡ true
places_within no_definition b e = e
places_within (and_also (Rule ps p) ds) b e =
    among_right (channels_of ps) (block ds) b (places_within ds b e)
places_within (and_also (Place a es p) ds) b e =
    elim (among_either (binder_of a ++ places_of es) (places_of ds) b e) [
      | inl u ↦ among_left (binder_of a ++ block es) (block ds) b
          (elim (among_either (binder_of a) (places_of es) b u) [
            | inl v ↦ among_left (binder_of a) (block es) b v
            | inr v ↦ among_right (binder_of a) (block es) b (places_within es b v)
          ])
      | inr u ↦ among_right (binder_of a ++ block es) (block ds) b (places_within ds b u)
    ]

channels_within : (ds : Definitions) (b : ℕ) → is_among (own_channels ds) b ≡ true
    → is_among (block ds) b ≡ true
channels_within no_definition b e = e
channels_within (and_also (Rule ps p) ds) b e =
    elim (among_either (channels_of ps) (own_channels ds) b e) [
      | inl u ↦ among_left (channels_of ps) (block ds) b u
      | inr u ↦ among_right (channels_of ps) (block ds) b (channels_within ds b u)
    ]
channels_within (and_also (Place a es p) ds) b e =
    elim (among_either (own_channels es) (own_channels ds) b e) [
      | inl u ↦ among_left (binder_of a ++ block es) (block ds) b
          (among_right (binder_of a) (block es) b (channels_within es b u))
      | inr u ↦ among_right (binder_of a ++ block es) (block ds) b (channels_within ds b u)
    ]

pub block_counted : (ds : Definitions) → IsBlock ds → (b : ℕ)
    → times (places_of ds) b + once (own_channels ds) b ≤ once (block ds) b
block_counted ds is b = go (is_among (own_channels ds) b) refl (is_among (places_of ds) b) refl
  where
    go : (u : Bool) → is_among (own_channels ds) b ≡ u → (v : Bool) → is_among (places_of ds) b ≡ v
        → times (places_of ds) b + cond u 1 0 ≤ once (block ds) b
    go true c v d =
        let none_there =
        not_among (places_of ds) b (channel_apart None b (places_of ds) ds is.apart c) in
        let in_block : once (block ds) b ≡ 1 = ap (λ w. cond w 1 0) (channels_within ds b c) in
        omega arith
    go false c true d =
        let few = is.one_place b in
        let in_block : once (block ds) b ≡ 1 = ap (λ w. cond w 1 0) (places_within ds b d) in
        omega arith
    go false c false d = let none_there = not_among (places_of ds) b d in omega arith

-- ---- what a term binds

module _ (args : ℕ → List SortArg) (channel seen : ℕ → Option SortArg)
    (known : Position → Name → Type 0) where
  patterns_counted : (ps : List Pat) (b : ℕ)
      → keyed (pattern_entries args channel seen ps) b ≡ times (params_of ps) b
  patterns_counted [] b = refl
  patterns_counted (p ∷ ps) b =
      let ss = asked_by args (pattern_sort args channel seen p.on) in
      omega (
        arith,
        keyed-append (entries_for ss p.params) (pattern_entries args channel seen ps) b,
        keyed_for ss p.params b,
        patterns_counted ps b,
        times-append p.params (params_of ps) b,
      )

  mutual
    pub process_counted : (scope : List ℕ) (p : Process) → IsTerm known scope p → (b : ℕ)
        → keyed (entries args channel seen p) b + once (inner p) b ≤ bound_in p b
    process_counted scope (Msg x vs) h b = omega arith
    process_counted scope (Par ps) h b = processes_counted scope ps h b
    process_counted scope (Def ds p) h b =
        omega (
          arith,
          keyed-append (entries_of_definitions args channel seen ds) (entries args channel seen p)
              b,
          once_append (own_channels ds) (inner_definitions ds ++ inner p) b,
          once_append (inner_definitions ds) (inner p) b,
          block_counted ds h.0 b,
          definitions_counted (block ds ++ scope) ds h.2 b,
          process_counted (block ds ++ scope) p h.3 b,
        )
    process_counted scope (Go x k) h b = omega arith
    process_counted scope (Fail x k) h b = omega arith
    process_counted scope Halt h b = omega arith

    pub processes_counted : (scope : List ℕ) (ps : Processes) → AreTerms known scope ps → (b : ℕ)
        → keyed (entries_of_all args channel seen ps) b + once (inner_all ps) b ≤ bound_in_all ps b
    processes_counted scope none h b = omega arith
    processes_counted scope (one_more p ps) h b =
        omega (
          arith,
          keyed-append (entries args channel seen p) (entries_of_all args channel seen ps) b,
          once_append (inner p) (inner_all ps) b,
          process_counted scope p h.0 b,
          processes_counted scope ps h.1 b,
        )

    pub definition_counted : (scope : List ℕ) (d : Definition) → IsDefinition known scope d
        → (b : ℕ)
        → keyed (entries_of_definition args channel seen d) b + once (inner_definition d) b
        ≤ times (place_of d) b + bound_in_definition d b
    definition_counted scope (Rule ps p) h b =
        omega (
          arith,
          keyed-append (pattern_entries args channel seen ps) (entries args channel seen p) b,
          patterns_counted ps b,
          process_counted (params_of ps ++ scope) p h.1 b,
        )
    definition_counted scope (Place a ds p) h b =
        let es = entries_of_definitions args channel seen ds in
        let qs = entries args channel seen p in
        omega (
          arith,
          keyed-append (place_entry a) (es ++ qs) b,
          keyed-append es qs b,
          keyed_place a b,
          once_append (inner_definitions ds) (inner p) b,
          times-append (binder_of a) (places_of ds) b,
          definitions_counted scope ds h.0 b,
          process_counted scope p h.1 b,
        )

    pub definitions_counted : (scope : List ℕ) (ds : Definitions) → AreDefinitions known scope ds
        → (b : ℕ)
        → keyed (entries_of_definitions args channel seen ds) b + once (inner_definitions ds) b
        ≤ times (places_of ds) b + bound_in_definitions ds b
    definitions_counted scope no_definition h b = omega arith
    definitions_counted scope (and_also d ds) h b =
        omega (
          arith,
          keyed-append (entries_of_definition args channel seen d)
              (entries_of_definitions args channel seen ds) b,
          once_append (inner_definition d) (inner_definitions ds) b,
          times-append (place_of d) (places_of ds) b,
          definition_counted scope d h.0 b,
          definitions_counted scope ds h.1 b,
        )

  -- a block with all that is within it
  pub whole_counted : (scope : List ℕ) (ds : Definitions) → IsBlock ds
      → AreDefinitions known scope ds → (b : ℕ)
      → keyed (entries_of_definitions args channel seen ds) b
      + once (own_channels ds ++ inner_definitions ds) b
      ≤ once (block ds) b + bound_in_definitions ds b
  whole_counted scope ds is h b = omega (
    arith,
    once_append (own_channels ds) (inner_definitions ds) b,
    block_counted ds is b,
    definitions_counted scope ds h b,
  )
